use Rattle.std.proofs.Common.{rules, arith, refl}
use Rattle.std.proofs.lemmas.Int.{to_z-of_z}
use Rattle.polcert_points.proofs.Common.{w128, CellTable}
use Rattle.polcert_points.specs.PointTable.{PointTable, charge_at}
use Rattle.polcert_points.proofs.PointExcesses.{backed_if, all_before, action_more, point_more}
use Rattle.polcert_points.proofs.point_verdict.first_point_excess.Goals as goal

pub loop-action-preserved : goal.loop-action-preserved
loop-action-preserved g c =
    let t : CellTable = g.C.Cells.table c.args.input.now.cells.now in
    let p : PointTable = g.P.BeliefPoints.table c.args.input.now.points.now in
    let same = to_z-of_z w128 c.point_excess-amount.result (search rules) in
    record {
      points = c.loop-action.invariant.points;
      actions = λ covers are.
          action_more t (charge_at p c.args.input.now.charges.now) p.points covers c.loop-point.point c.loop-action.action
          (c.loop-action.invariant.actions covers are)
          (backed_if t (charge_at p c.args.input.now.charges.now) p.points covers c.loop-point.point c.loop-action.action
          c.point_excess-amount.result (c.point_excess-amount.ensures covers are) (rw same at (c.if-is_above.ensures.not_above refl)));
    }

pub loop-point-preserved : goal.loop-point-preserved
loop-point-preserved g c =
    let t : CellTable = g.C.Cells.table c.args.input.now.cells.now in
    let p : PointTable = g.P.BeliefPoints.table c.args.input.now.points.now in
    λ covers are.
    point_more t (charge_at p c.args.input.now.charges.now) p.points covers c.loop-point.point (c.loop-point.invariant covers are)
    (λ b bl. c.loop-action.invariant.actions covers are b (omega (arith, bl, c.loop-action-test.false, c.actions-action-end.ensures)))

pub returns-then-is_above : goal.returns-then-is_above
returns-then-is_above g c =
    let t : CellTable = g.C.Cells.table c.args.input.now.cells.now in
    let p : PointTable = g.P.BeliefPoints.table c.args.input.now.points.now in
    let same = to_z-of_z w128 c.point_excess-amount.result (search rules) in
    λ covers are.
    rw same (
      omega (arith, c.loop-point-test.true, c.count-point-end.ensures),
      omega (arith, c.loop-action-test.true, c.actions-action-end.ensures),
      all_before t (charge_at p c.args.input.now.charges.now) p.points covers c.loop-point.point c.loop-action.action
          (c.loop-action.invariant.points covers are) (c.loop-action.invariant.actions covers are),
      c.point_excess-amount.ensures covers are,
      rw same at (c.if-is_above.ensures.above refl),
    )

pub returns : goal.returns
returns g c = λ covers are i a il al. c.loop-point.invariant covers are i a
    (omega (arith, il, c.loop-point-test.false, c.count-point-end.ensures)) al
