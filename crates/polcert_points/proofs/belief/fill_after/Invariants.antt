use Rattle.std.proofs.Common.{◌≡◌, ℕ, ◌-◌, ◌*◌, ◌<◌, ◌≤◌, Some, slice_index}
use Rattle.polcert_points.proofs.Common.{reached}
use Rattle.polcert_points.specs.Steps.PointSums.{arrival}
use Rattle.polcert_points.proofs.belief.fill_after.Given as goal

-- the belief at the end states that are reached
abbrev pub invariant-loop-end : goal.invariant-loop-end
invariant-loop-end g l = record {
  done : (k : ℕ) → k < reached (Some l.ends) l.at → slice_index l.belief k
      ≡ arrival (g.C.Cells.table l.input.cells.now) ((g.P.BeliefPoints.table l.input.points.now).points.belief l.i) l.a k
      * (g.C.Cells.table l.input.cells.now).o l.a k l.observation;
  rest : (k : ℕ) → reached (Some l.ends) l.at ≤ k → slice_index l.belief k ≡ slice_index l.fn.belief k;
  greatest : (k : ℕ) → k < reached (Some l.ends) l.at
      → arrival (g.C.Cells.table l.input.cells.now) ((g.P.BeliefPoints.table l.input.points.now).points.belief l.i) l.a k
      * (g.C.Cells.table l.input.cells.now).o l.a k l.observation ≤ l.greatest;
  within : reached (Some l.ends) l.at ≤ (g.C.Cells.table l.input.cells.now).states;
}

abbrev pub decreases-loop-end : goal.decreases-loop-end
decreases-loop-end g l = (g.C.Cells.table l.input.cells.now).states - reached (Some l.ends) l.at
