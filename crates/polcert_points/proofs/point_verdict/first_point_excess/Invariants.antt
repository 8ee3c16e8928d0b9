use Rattle.std.proofs.Common.{ℕ, ◌<◌}
use Rattle.polcert_points.specs.Points.{Covers, IsPointBacked}
use Rattle.polcert_points.specs.PointCheck.{AreCoversBy}
use Rattle.polcert_points.specs.PointTable.{charge_at}
use Rattle.polcert_points.proofs.point_verdict.first_point_excess.Given as goal

abbrev pub invariant-loop-point : goal.invariant-loop-point
invariant-loop-point g l = (covers : Covers) → AreCoversBy (g.C.Cells.table l.input.cells.now)
    (g.P.BeliefPoints.table l.input.points.now).points (g.P.BeliefPoints.table l.input.points.now).next covers
    → (j b : ℕ) → j < l.point → b < (g.C.Cells.table l.input.cells.now).actions
    → IsPointBacked (g.C.Cells.table l.input.cells.now) (charge_at (g.P.BeliefPoints.table l.input.points.now) l.input.charges.now)
    (g.P.BeliefPoints.table l.input.points.now).points covers j b

abbrev pub invariant-loop-action : goal.invariant-loop-action
invariant-loop-action g l = record {
  points : (covers : Covers) → AreCoversBy (g.C.Cells.table l.input.cells.now) (g.P.BeliefPoints.table l.input.points.now).points
      (g.P.BeliefPoints.table l.input.points.now).next covers
      → (j b : ℕ) → j < l.point → b < (g.C.Cells.table l.input.cells.now).actions
      → IsPointBacked (g.C.Cells.table l.input.cells.now) (charge_at (g.P.BeliefPoints.table l.input.points.now) l.input.charges.now)
      (g.P.BeliefPoints.table l.input.points.now).points covers j b;
  actions : (covers : Covers) → AreCoversBy (g.C.Cells.table l.input.cells.now) (g.P.BeliefPoints.table l.input.points.now).points
      (g.P.BeliefPoints.table l.input.points.now).next covers
      → (b : ℕ) → b < l.action → IsPointBacked (g.C.Cells.table l.input.cells.now)
      (charge_at (g.P.BeliefPoints.table l.input.points.now) l.input.charges.now) (g.P.BeliefPoints.table l.input.points.now).points
      covers l.point b;
}
