use Rattle.std.proofs.Common.{w64, refl}
use Rattle.std.proofs.lemmas.Int.{to_z_pos}
use Rattle.polcert_robust.proofs.RobustMoves.{constant_fits}
use Rattle.polcert_robust.proofs.robust_lower.least_robust_of.Goals as goal

pub overflow_cast-result : goal.overflow_cast-result
overflow_cast-result g c = constant_fits _ _ c.args.input.now.are_proper _ (c.if-stays_in_range_moved.ensures.0 refl)

pub returns-then-stays_in_range_moved-clause-least : goal.returns-then-stays_in_range_moved-clause-least
returns-then-stays_in_range_moved-clause-least g c =
    let fits = constant_fits _ _
    c.args.input.now.are_proper _ (c.if-stays_in_range_moved.ensures.0 refl) in
    (_, to_z_pos w64 _ fits.sfits, c.in_ok-by.ensures.least, c.if-stays_in_range_moved.ensures.0 refl)
