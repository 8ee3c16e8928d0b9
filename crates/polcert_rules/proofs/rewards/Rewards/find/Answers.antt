use Rattle.std.proofs.Common.{◌∙◌, ℕ, [], ◌∷◌, sym, ap, subst, arith, rules}
use Rattle.polcert_rules.proofs.Common.{same_Some, reward, Reward, AreIndices, table_key, most_places, max_option}
use Rattle.polcert_rules.proofs.Common.{RewardRules, noted_at, IsNewest}
use Rattle.polcert_cells.specs.CommonRewards.{IsRewardRow}
use Rattle.polcert_cells.specs.declared.common_reward.RewardRow.{RewardRow}
use Rattle.polcert_rules.specs.Keys.{FitsKey}
use Rattle.polcert_rules.specs.Steps.FittingRules.{AreFitting}
use Rattle.polcert_rules.specs.Steps.NamedCells.{AreNewestAt}
use Rattle.polcert_rules.proofs.Indexes.NotedLaws.{noted_first, later_none}
use Rattle.polcert_rules.proofs.Indexes.NamedLaws.{unnamed_in}
use Rattle.polcert_rules.proofs.rewards.Rewards.find.Goals as goal

pub fill_named-requires-clause-newest : goal.fill_named-requires-clause-newest
fill_named-requires-clause-newest c =
    subst (λ rewards. AreNewestAt rewards.rules (record { action = c.args.action; start = c.args.start; end = c.args.end })
    c.note_named.new.list) c.self.view_is
    (λ z l. noted_first _ _ _ _ (c.new-list.ensures z)
    (c.note_named.ensures c.if-not-note_named.false _ _ _ c.fitting-rules.ensures z l))

pub returns-clause-row : goal.returns-clause-row
returns-clause-row c p entries are row is =
    let list = c.note_named.new.list in
    let cells = c.fill_named.new.cells in
    let named = c.fill_named.ensures.cells c.if-not-fill_named.false in
    let cell = λ (z : ℕ). c.args.action ∷ c.args.start ∷ c.args.end ∷ z ∷ [] in
    let base = c.in-Some.base in
    subst (λ (x : RewardRow). IsRewardRow (λ z. reward p entries (cell z)) c.args.self.now.shape.observations x cells)
    (same_Some _ _ is) (record {
      size = c.base_of.ensures.size base c.in-Some.is;
      rewards = record {
        room = c.fill_named.ensures.room c.if-not-fill_named.false;
        distinct = λ j k l m e. list.distinct.each j k l m (sym (named.named j (omega (arith, l, m))) ∙ e ∙ named.named k m);
        within = named.within;
        each = named.each p entries are;
        others = λ z l unnamed.
            let small : AreIndices most_places (cell z) = search rules in
            let none = unnamed_in list.rules list.count z (λ k m e. unnamed k m (named.named k m ∙ e)) in
            let first = noted_first _ (FitsKey most_places (table_key Reward) (cell z)) _ _ (c.new-list.ensures z)
            (c.note_named.ensures c.if-not-note_named.false _ _ _ c.fitting-rules.ensures z small.1.1.1.0) in
            let here : IsNewest c.args.self.now.rules (FitsKey most_places (table_key Reward) (cell z)) (noted_at list z) =
            subst (λ (rewards : RewardRules). IsNewest rewards.rules (FitsKey most_places (table_key Reward) (cell z)) (noted_at list z))
            c.self.view_is first in
            let whole = subst (IsNewest c.args.self.now.rules (FitsKey most_places (table_key Reward) (cell z)))
            (ap (max_option list.whole) none ∙ later_none list.whole) here in
            c.base_of.ensures.rewards p entries are base c.in-Some.is z l
            (c.body_of.ensures (cell z) p entries small are whole);
      };
    })

pub until_of-requires-clause-fitting : goal.until_of-requires-clause-fitting
until_of-requires-clause-fitting c =
    subst (λ (rewards : RewardRules). AreFitting rewards.rules c.args.action c.args.start c.fitting-rules.result) c.self.view_is
    c.fitting-rules.ensures
