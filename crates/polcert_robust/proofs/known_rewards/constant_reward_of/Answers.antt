use Rattle.std.proofs.Common.{refl, rules, subst, w64}
use Rattle.std.proofs.lemmas.Int.{to_z-of_z}
use Rattle.std.proofs.lemmas.Option.{same_Some}
use Rattle.polcert_robust.specs.Steps.Rewards.{IsConstantReward}
use Rattle.polcert_robust.proofs.KnownRewards.{end_constant, row_constant}
use Rattle.polcert_robust.proofs.known_rewards.constant_reward_of.Goals as goal

pub returns-in-Some : goal.returns-in-Some
returns-in-Some g c =
    let m = g.C.Cells.table _ in
    rw (to_z-of_z w64 c.in-Some.common.reward (search rules)) (λ x is. subst (IsConstantReward m _ _)
    (same_Some _ x is)
    (row_constant m _ _ _ _ (search rules)
    (c.in-Some.ensures _ refl)))

pub returns-in-Some-find_end_rewards : goal.returns-in-Some-find_end_rewards
returns-in-Some-find_end_rewards g c =
    let m = g.C.Cells.table _ in
    rw (to_z-of_z w64 c.in-Some-find_end_rewards.common.reward (search rules)) (λ x is. subst (IsConstantReward m _ _)
    (same_Some _ x is)
    (end_constant m _ _ _ _ (search rules)
    (c.in-Some-find_end_rewards.ensures _ refl)))
