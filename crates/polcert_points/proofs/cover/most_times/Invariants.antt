use Rattle.std.proofs.Common.{◌-◌, ◌≤◌, Some, slice_index}
use Rattle.polcert_points.proofs.Common.{reached}
use Rattle.polcert_points.proofs.Covering.{IsMostUntil}
use Rattle.polcert_points.proofs.cover.most_times.Given as goal

abbrev pub invariant-loop-state : goal.invariant-loop-state
invariant-loop-state g l = record {
  most : IsMostUntil 5000000000000000000000000 (slice_index l.belief) ((g.P.BeliefPoints.table l.points).points.belief l.j)
      (reached (Some l.point) l.at) l.times;
  few : l.times ≤ 5000000000000000000000000;
  within : reached (Some l.point) l.at ≤ (g.P.BeliefPoints.table l.points).states;
}

abbrev pub decreases-loop-state : goal.decreases-loop-state
decreases-loop-state g l = (g.P.BeliefPoints.table l.points).states - reached (Some l.point) l.at
