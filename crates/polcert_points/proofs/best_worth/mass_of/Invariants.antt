use Rattle.std.proofs.Common.{◌≡◌, ◌-◌, ◌≤◌, Some}
use Rattle.polcert_cells.specs.Meaning.{sum_below}
use Rattle.polcert_points.proofs.Common.{reached}
use Rattle.polcert_points.proofs.best_worth.mass_of.Given as goal

abbrev pub invariant-loop-state : goal.invariant-loop-state
invariant-loop-state g l = record {
  sum : l.sum ≡ sum_below ((g.P.BeliefPoints.table l.points).points.belief l.i) (reached (Some l.point) l.at);
  within : reached (Some l.point) l.at ≤ (g.P.BeliefPoints.table l.points).states;
}

abbrev pub decreases-loop-state : goal.decreases-loop-state
decreases-loop-state g l = (g.P.BeliefPoints.table l.points).states - reached (Some l.point) l.at
