use Rattle.std.proofs.Common.{ℕ, ◌+◌, Option, subst, arith}
use Rattle.polcert_cells.specs.declared.cells.Step.{Step}
use Rattle.polcert_policy.specs.Points.{point_weight}
use Rattle.polcert_points_form.specs.Steps.RowWalk.{IsStepFrom}
use Rattle.polcert_points_form.proofs.RowWalks.{step_from}
use Rattle.polcert_points_form.proofs.row_walk.next_step.Goals as goal

pub returns-then-step-column : goal.returns-then-step-column
returns-then-step-column c =
    let f : ℕ → ℕ = point_weight c.args._points.now c.args.i in
    let next = subst (λ (x : Option Step). IsStepFrom f c.args._points.now.states c.args.row c.args.column x) c.in-Some.is c.requires.next
    in
    step_from f c.args._points.now.states c.args.row c.in-Some.step.next (c.args.column + 1) c.step.result
    (omega (arith, next.1, c.if-step-column.true)) (c.step.ensures f c.args._points.now.states c.requires.row)
