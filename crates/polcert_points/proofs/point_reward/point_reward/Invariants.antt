use Rattle.std.proofs.Common.{◌≡◌, ◌-◌, ◌≤◌, pos, ◌*ℤ◌, Some}
use Rattle.polcert_points.proofs.Common.{expected_reward, reached, total_below}
use Rattle.polcert_points.proofs.point_reward.point_reward.Given as goal

abbrev pub invariant-loop-state : goal.invariant-loop-state
invariant-loop-state g l = record {
  sum : l.sum ≡ total_below (λ s. pos ((g.P.BeliefPoints.table l.input.points.now).points.belief l.i s)
      *ℤ expected_reward (g.C.Cells.table l.input.cells.now) l.a s) (reached (Some l.point) l.at);
  within : reached (Some l.point) l.at ≤ (g.P.BeliefPoints.table l.input.points.now).states;
}

abbrev pub decreases-loop-state : goal.decreases-loop-state
decreases-loop-state g l = (g.P.BeliefPoints.table l.input.points.now).states - reached (Some l.point) l.at
