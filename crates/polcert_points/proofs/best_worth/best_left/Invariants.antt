use Rattle.std.proofs.Common.{◌≡◌, slice_index}
use Rattle.polcert_points.proofs.Common.{greatest_below}
use Rattle.polcert_points.specs.PointTable.{charge_at}
use Rattle.polcert_points.specs.Steps.PointSums.{left_worth}
use Rattle.polcert_points.proofs.best_worth.best_left.Given as goal

-- the best of the next actions so far
abbrev pub invariant-loop-next : goal.invariant-loop-next
invariant-loop-next g l = l.best ≡ greatest_below (left_worth (g.C.Cells.table l.input.cells.now)
    (charge_at (g.P.BeliefPoints.table l.input.points.now) l.input.charges.now) (g.P.BeliefPoints.table l.input.points.now).points
    l.taken.point l.taken.times (slice_index l.left)) l.next
