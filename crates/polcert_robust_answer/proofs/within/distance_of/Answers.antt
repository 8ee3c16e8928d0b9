use Rattle.std.proofs.Common.{rules, ◌≡◌, ◌++◌, ◌∷◌, [], ℕ, IfNone, IfSome, subst}
use Rattle.polcert_robust_answer.specs.Distances.{IsRewardDistance}
use Rattle.polcert_robust_answer.proofs.DistanceLaws.{some_from, none_from}
use Rattle.polcert_robust_answer.proofs.within.distance_of.Goals as goal

pub returns-clause-found : goal.returns-clause-found
returns-clause-found c =
    let same : c.deref.result.now ≡ c.args.text.now ++ 101 ∷ 54 ∷ [] = search rules in
    some_from c.args.text.now c.reward_distance_of.result
    (subst (λ numeral. IfSome c.reward_distance_of.result (IsRewardDistance numeral)) same c.reward_distance_of.ensures.found)

pub returns-clause-none : goal.returns-clause-none
returns-clause-none c =
    let same : c.deref.result.now ≡ c.args.text.now ++ 101 ∷ 54 ∷ [] = search rules in
    none_from c.args.text.now c.reward_distance_of.result
    (subst (λ numeral. IfNone c.reward_distance_of.result ((by : ℕ) → IsRewardDistance numeral by → ⊥)) same
    c.reward_distance_of.ensures.none)
