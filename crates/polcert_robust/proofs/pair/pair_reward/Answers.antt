use Rattle.std.proofs.Common.{ℕ, rules, subst, w64}
use Rattle.std.proofs.lemmas.Int.{to_z-of_z}
use Rattle.std.proofs.lemmas.Option.{same_Some}
use Rattle.polcert_robust.specs.Steps.Pairs.{cells_of, near_controller}
use Rattle.polcert_robust.specs.Steps.Rewards.{IsKnownReward}
use Rattle.polcert_robust.proofs.pair.pair_reward.Goals as goal

pub returns-then-is_some : goal.returns-then-is_some
returns-then-is_some g c = λ h is. c.args.pair.now.constant_everywhere h is _ c.requires.end

pub returns-in-Some : goal.returns-in-Some
returns-in-Some g c =
    let m = cells_of c.args.pair.now.input.now in
    let a : ℕ = (near_controller c.args.pair.now.input.now).action _ in
    let s : ℕ = c.args.pair.now.s in
    rw (to_z-of_z w64 c.reward_among.result (search rules)) (λ x is. subst (IsKnownReward m a s _)
    (same_Some _ x is)
    (λ z l. c.reward_among.ensures _ _ c.requires.end
    ((c.args.pair.now.listed_ends _ c.in-Some.is).0 z l)))
