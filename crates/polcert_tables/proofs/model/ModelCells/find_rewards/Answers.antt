use Rattle.std.proofs.Common.{◌≡◌, ◌∙◌, ◌<◌, ◌≤◌, ℕ, List, [], ◌∷◌, Option, is_none, sym, ap, subst}
use Rattle.std.proofs.lemmas.Option.{same_Some}
use Rattle.polcert_tables.proofs.Common.{ForSome, reward, Elements, Preamble, Entry, AreRewardsOf, IsKeptModel, Contents}
use Rattle.polcert_cells.specs.CommonRewards.{IsRewardRow}
use Rattle.polcert_cells.specs.declared.common_reward.RewardRow.{RewardRow}
use Rattle.polcert_tables.proofs.KeptLaws.{model_ends, model_reward_row}
use Rattle.polcert_tables.proofs.model.ModelCells.find_rewards.Goals as goal

-- rewards are the same from an end state on, before another
abbrev AreSameEnds : Contents → ℕ → ℕ → ℕ → ℕ → Type 0
AreSameEnds m a s e until = (p : Preamble) (entries : List Entry) → AreRewardsOf p entries m.kept.rewards → (f z : ℕ) → e ≤ f → f < until
    → f < m.kept.rewards.shape.states → z < m.kept.rewards.shape.observations
    → reward p entries (a ∷ s ∷ f ∷ z ∷ []) ≡ reward p entries (a ∷ s ∷ e ∷ z ∷ [])

pub returns-in-Some-clause-row : goal.returns-in-Some-clause-row
returns-in-Some-clause-row c =
    let pomdp = sym (ap (λ (m : Contents). is_none m.kept.preamble.observations) c.self.view_is)
    ∙ ap (λ (o : Option Elements). is_none o) c.in-Some.is in
    model_reward_row c.args.self.now.kept (subst (λ (m : Contents). IsKeptModel m.kept) c.self.view_is c.self.invariant) c.args.a
    c.args.s c.args.e c.find.result c.find.new.exceptions c.requires.action c.requires.start c.requires.end pomdp
    (subst (λ (m : Contents). (p : Preamble) (entries : List Entry) → AreRewardsOf p entries m.kept.rewards
    → ForSome c.find.result (λ row. IsRewardRow (λ z. reward p entries (c.args.a ∷ c.args.s ∷ c.args.e ∷ z ∷ []))
    m.kept.rewards.shape.observations row c.find.new.exceptions)) c.self.view_is c.find.ensures.row)

pub returns-in-Some-clause-until : goal.returns-in-Some-clause-until
returns-in-Some-clause-until c row is =
    model_ends c.args.self.now.kept (subst (λ (m : Contents). IsKeptModel m.kept) c.self.view_is c.self.invariant) c.args.a c.args.s
    c.args.e row.until c.requires.action c.requires.start c.requires.end
    (subst (λ (m : Contents). AreSameEnds m c.args.a c.args.s c.args.e row.until) c.self.view_is
    (λ p entries are. c.find.ensures.until p entries are row is))

pub returns-in-None-clause-until : goal.returns-in-None-clause-until
returns-in-None-clause-until c row is f z from to =
    model_ends c.args.self.now.kept (subst (λ (m : Contents). IsKeptModel m.kept) c.self.view_is c.self.invariant) c.args.a c.args.s
    c.args.e c.same_until.result c.requires.action c.requires.start c.requires.end
    (subst (λ (m : Contents). AreSameEnds m c.args.a c.args.s c.args.e c.same_until.result) c.self.view_is c.same_until.ensures) f z from
    (subst (λ (r : RewardRow). f < r.until) (sym (same_Some _ _ is)) to)

pub r-requires-clause-observation : goal.r-requires-clause-observation
r-requires-clause-observation c = (subst (λ (m : Contents). IsKeptModel m.kept) c.self.view_is c.self.invariant).observations.0
