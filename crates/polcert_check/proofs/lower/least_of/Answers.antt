use Rattle.std.proofs.Common.{w64, refl}
use Rattle.polcert_check.proofs.Common.{to_z_pos, err_from_is_err_and, CanMove, input_controller, checked_controller}
use Rattle.polcert_check.proofs.Mirrors.Sides.{sided_proper, sided_limits, sided_values}
use Rattle.polcert_check.proofs.Lowerings.Least.{constant_fits}
use Rattle.polcert_check.proofs.Walking.Outcomes.{refused_small}
use Rattle.polcert_check.proofs.lower.least_of.Goals as goal

pub returns-in_err-by-clause-small : goal.returns-in_err-by-clause-small
returns-in_err-by-clause-small g c =
    let p = err_from_is_err_and c.from_residual.result c.from_residual.ensures.1 in
    rw (p.1, p.2) (refused_small (checked_controller c.args.input.now)
    (sided_proper c.args.input.now.side (input_controller c.args.input.now) c.args.input.now.proper)
    (sided_limits c.args.input.now.side (input_controller c.args.input.now) (g.met.C.Cells.is_within_limits _))
    (sided_values c.args.input.now.side (input_controller c.args.input.now) c.args.input.now.values)
    (CanMove c.args.input.now.side c.args.input.now.vectors.now) _ c.in_err-by.ensures.refused)

pub overflow_cast-result : goal.overflow_cast-result
overflow_cast-result g c = constant_fits _ _ c.args.input.now.are_proper _
    (c.if-stays_in_range.ensures.0 refl)

pub returns-then-stays_in_range-clause-least : goal.returns-then-stays_in_range-clause-least
returns-then-stays_in_range-clause-least g c =
    let fits = constant_fits _ _
    c.args.input.now.are_proper _ (c.if-stays_in_range.ensures.0 refl) in
    (_, to_z_pos w64 _ fits.sfits, c.in_ok-by.ensures.least, c.if-stays_in_range.ensures.0 refl)
