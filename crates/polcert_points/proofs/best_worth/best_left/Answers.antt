use Rattle.std.proofs.Common.{rules, arith, to_z, slice_index}
use Rattle.polcert_points.proofs.Common.{w128}
use Rattle.polcert_points.specs.PointTable.{PointTable, charge_at}
use Rattle.polcert_points.specs.Steps.PointSums.{left_worth}
use Rattle.polcert_points.proofs.BestWorths.{best_step}
use Rattle.polcert_points.proofs.best_worth.best_left.Goals as goal

pub loop-next-preserved : goal.loop-next-preserved
loop-next-preserved g c =
    let p : PointTable = g.P.BeliefPoints.table c.args.input.now.points.now in
    best_step (left_worth (g.C.Cells.table c.args.input.now.cells.now) (charge_at p c.args.input.now.charges.now) p.points
    c.args.taken.point c.args.taken.times (slice_index c.args.left.now)) c.loop-next.next (to_z w128 c.loop-next.best-bits)
    c.worth_with.result c.max-best.result (search rules) (search rules) c.max-best.ensures.value c.loop-next.invariant
    c.worth_with.ensures (omega (arith, c.loop-next.auto))
