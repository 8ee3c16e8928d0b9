use Rattle.std.proofs.Common.{arith}
use Rattle.polcert_check.specs.Horizon.{one}
use Rattle.std.proofs.lemmas.Result.{err_from_is_err_and}
use Rattle.polcert_check.proofs.Sums.Scales.{discount_le, scales}
use Rattle.polcert_robust.specs.Steps.Pairs.{cells_of, near_controller, near_table}
use Rattle.polcert_robust.proofs.LeastRobust.{none_lacks, refused_robustly, zero_robustly}
use Rattle.polcert_robust.proofs.robust_lower.least_passing_robustly.Goals as goal

pub least_robust_below_one-requires-clause-discount : goal.least_robust_below_one-requires-clause-discount
unfolding one
least_robust_below_one-requires-clause-discount g c = omega arith

pub returns-then-discount-lt1000000-clause-none : goal.returns-then-discount-lt1000000-clause-none
returns-then-discount-lt1000000-clause-none g c =
    none_lacks (near_table c.args.input.now) (near_controller c.args.input.now)
    (discount_le (cells_of c.args.input.now) (g.met.C.Cells.is_within_limits c.args.input.now.cells.now))
    c.args.findings c.requires.found

pub returns-in_err-refuse_undiscounted-clause-refused : goal.returns-in_err-refuse_undiscounted-clause-refused
unfolding one
returns-in_err-refuse_undiscounted-clause-refused g c =
    let t = cells_of c.args.input.now in
    let limits = g.met.C.Cells.is_within_limits _ in
    let some = scales t limits in
    let p = err_from_is_err_and c.from_residual.result c.from_residual.ensures.1 in
    rw (p.1, p.2) (refused_robustly _ _ (discount_le t limits) some.0 some.1
    (omega arith) _ c.requires.found _ c.in_err-refuse_undiscounted.ensures.refused
    _)

pub returns-clause-least : goal.returns-clause-least
returns-clause-least g c =
    zero_robustly (near_table c.args.input.now) (near_controller c.args.input.now)
    (discount_le (cells_of c.args.input.now) (g.met.C.Cells.is_within_limits c.args.input.now.cells.now))
    c.args.findings c.requires.found c.in_ok-refuse_undiscounted.ensures.passes

pub returns-clause-none : goal.returns-clause-none
returns-clause-none g c =
    none_lacks (near_table c.args.input.now) (near_controller c.args.input.now)
    (discount_le (cells_of c.args.input.now) (g.met.C.Cells.is_within_limits c.args.input.now.cells.now))
    c.args.findings c.requires.found
