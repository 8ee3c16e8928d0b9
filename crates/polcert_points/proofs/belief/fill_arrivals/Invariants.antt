use Rattle.std.proofs.Common.{◌≡◌, ℕ, ◌-◌, ◌*◌, ◌<◌, ◌≤◌, Some, slice_index}
use Rattle.polcert_cells.specs.Meaning.{sum_below}
use Rattle.polcert_points.proofs.Common.{reached}
use Rattle.polcert_points.proofs.belief.fill_arrivals.Given as goal

-- what the states so far add
abbrev pub invariant-loop-start : goal.invariant-loop-start
invariant-loop-start g l = record {
  arrivals : (e : ℕ) → e < (g.C.Cells.table l.input.cells.now).states
      → slice_index l.arrivals e ≡ sum_below (λ s. (g.P.BeliefPoints.table l.input.points.now).points.belief l.i s
      * (g.C.Cells.table l.input.cells.now).t l.a s e) (reached (Some l.point) l.at);
  within : reached (Some l.point) l.at ≤ (g.P.BeliefPoints.table l.input.points.now).states;
}

abbrev pub decreases-loop-start : goal.decreases-loop-start
decreases-loop-start g l = (g.P.BeliefPoints.table l.input.points.now).states - reached (Some l.point) l.at
