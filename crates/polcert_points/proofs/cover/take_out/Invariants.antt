use Rattle.std.proofs.Common.{◌≡◌, ℕ, ◌-◌, ◌*◌, ◌<◌, ◌≤◌, Some, slice_index}
use Rattle.polcert_points.proofs.Common.{reached}
use Rattle.polcert_points.proofs.cover.take_out.Given as goal

abbrev pub invariant-loop-state : goal.invariant-loop-state
invariant-loop-state g l = record {
  done : (k : ℕ) → k < reached (Some l.point) l.at → slice_index l.belief k ≡ slice_index l.fn.belief k - l.times
      * (g.P.BeliefPoints.table l.points).points.belief l.j k;
  rest : (k : ℕ) → reached (Some l.point) l.at ≤ k → slice_index l.belief k ≡ slice_index l.fn.belief k;
  within : reached (Some l.point) l.at ≤ (g.P.BeliefPoints.table l.points).states;
}

abbrev pub decreases-loop-state : goal.decreases-loop-state
decreases-loop-state g l = (g.P.BeliefPoints.table l.points).states - reached (Some l.point) l.at
