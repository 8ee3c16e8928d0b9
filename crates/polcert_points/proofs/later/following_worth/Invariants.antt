use Rattle.std.proofs.Common.{◌≡◌, ℕ, ◌<◌, slice_index}
use Rattle.polcert_points.proofs.Common.{total_below}
use Rattle.polcert_points.specs.Belief.{updated_belief}
use Rattle.polcert_points.specs.Points.{best_worth}
use Rattle.polcert_points.specs.PointTable.{charge_at}
use Rattle.polcert_points.specs.Steps.PointSums.{arrival}
use Rattle.polcert_points.proofs.NamedCovers.{covers_of}
use Rattle.polcert_points.proofs.later.following_worth.Given as goal

-- the sum over the observations so far, and no weight at end states that are not reached
abbrev pub invariant-loop-z : goal.invariant-loop-z
invariant-loop-z g l = record {
  sum : l.sum ≡ total_below (λ z. best_worth (g.C.Cells.table l.input.cells.now)
      (charge_at (g.P.BeliefPoints.table l.input.points.now) l.input.charges.now) (g.P.BeliefPoints.table l.input.points.now).points
      (updated_belief (g.C.Cells.table l.input.cells.now) ((g.P.BeliefPoints.table l.input.points.now).points.belief l.i) l.a z)
      (covers_of (g.C.Cells.table l.input.cells.now) (g.P.BeliefPoints.table l.input.points.now) l.i l.a z)) l.z;
  others : (e : ℕ) → e < (g.C.Cells.table l.input.cells.now).states
      → arrival (g.C.Cells.table l.input.cells.now) ((g.P.BeliefPoints.table l.input.points.now).points.belief l.i) l.a e ≡ 0
      → slice_index l.belief e ≡ 0;
}
