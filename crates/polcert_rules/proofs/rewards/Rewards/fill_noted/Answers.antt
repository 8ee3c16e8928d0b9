use Rattle.std.proofs.Common.{◌≡◌, ◌∙◌, ◌≢◌, ◌+◌, ◌<◌, ℕ, List, [], ◌∷◌, None, Option, map, length, get_or, set, take, pos, FitsSigned}
use Rattle.std.proofs.Common.{to_z, w64, ap, subst, arith, rules, below_more, get_or-set_other, get_or-set_same}
use Rattle.std.proofs.lemmas.Int.{to_z-of_z}
use Rattle.std.proofs.lemmas.List.{get_or-take, length-take-le}
use Rattle.polcert_rules.proofs.Common.{count_of, dimensions, reward, Reward, Rule, AreIndices, table_key, most_places, IsNewest}
use Rattle.polcert_rules.proofs.Common.{RewardRules, AreWithin, IsLastBody, RewardBody}
use Rattle.polcert_rules.specs.Keys.{FitsKey}
use Rattle.polcert_rules.proofs.Indexes.NotedLaws.{noted_first}
use Rattle.polcert_rules.proofs.rewards.Rewards.fill_noted.Goals as goal
use Rattle.polcert_rules.proofs.rewards.Rewards.fill_noted.Goals.{then-is_same_rule, else-is_same_rule}

pub loop-i-preserved : goal.loop-i-preserved
loop-i-preserved c = λ p entries are.
    let i = c.loop-i.i in
    let z = c.args.first + i in
    let cell = λ (y : ℕ). c.args.at.action ∷ c.args.at.start ∷ c.args.at.end ∷ y ∷ [] in
    let IsLast : Option RewardBody → Type 0 = IsLastBody p.costs entries c.args.self.now.numbers (cell z) in
    let IsHere : Option ℕ → Type 0 = IsNewest c.args.self.now.rules (FitsKey most_places (table_key Reward) (cell z)) in
    let here : z < c.args.self.now.shape.observations = omega (arith, c.loop-i-test.true, c.requires.within) in
    let few : i < length c.args.noted.now = omega (arith, c.loop-i-test.true, c.requires.room_to_note) in
    let lt : i < length c.loop-i.rewards = omega (arith, c.loop-i-test.true, c.requires.room, c.loop-i.auto.rewards) in
    let within : AreWithin (map count_of (dimensions p Reward)) (cell z) = search rules in
    let small : AreIndices most_places (cell z) = search rules in
    let before : i < c.args.count + 1 = omega (arith, c.loop-i-test.true) in
    let among : i < length (take (c.args.count + 1) c.args.noted.now) =
    rw (length-take-le (c.args.count + 1) c.args.noted.now (omega (arith, c.requires.room_to_note))) before in
    let none : get_or (take (c.args.count + 1) c.args.noted.now) i None ≡ None =
    get_or-take (c.args.count + 1) c.args.noted.now i None before ∙ c.requires.nothing i few in
    let first = noted_first _ (FitsKey most_places (table_key Reward) (cell z)) _ (get_or c.note.new.noted i None) none
    (c.note.ensures _ _ _ c.fitting.ensures i among) in
    let newest : IsHere (get_or c.note.new.noted i None) =
    subst (λ (xs : List Rule). IsNewest xs (FitsKey most_places (table_key Reward) (cell z)) (get_or c.note.new.noted i None))
    (ap (λ (rewards : RewardRules). rewards.rules) c.self.view_is) first in
    let is : to_z w64 c.if-is_same_rule.reward-bits ≡ reward p entries (cell z) = elim c.if-is_same_rule.branch [
      | then-is_same_rule w ↦
          let fits : FitsSigned w64 w.single_or_given-reward.result = search rules in
          w.reward-is ∙ to_z-of_z w64 w.single_or_given-reward.result fits
          ∙ w.single_or_given-reward.ensures p entries are within
          (c.body_of-shared_body.ensures (cell z) p entries small are
          (subst IsHere (c.is_same_rule.ensures.0 w.if-is_same_rule.true) newest))
      | else-is_same_rule w ↦
          let fits : FitsSigned w64 w.reward_of_body-reward.result = search rules in
          w.reward-is ∙ to_z-of_z w64 w.reward_of_body-reward.result fits
          ∙ w.reward_of_body-reward.ensures p entries are within (w.body_of.ensures (cell z) p entries small are newest)
    ] in
    below_more (λ y. get_or (set c.loop-i.rewards i (to_z w64 c.if-is_same_rule.reward-bits)) y (pos 0)
    ≡ reward p entries (cell (c.args.first + y))) i
    (λ y l. let ne : y ≢ i = omega arith in rw get_or-set_other (c.loop-i.invariant p entries are y l))
    (rw get_or-set_same is)
