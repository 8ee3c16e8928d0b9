use Rattle.std.proofs.Common.{◌≡◌, ℕ, ◌<◌, slice_index}
use Rattle.polcert_cells.specs.Meaning.{start_weight, states_of}
use Rattle.polcert_cells.specs.Tables.{table_of}
use Rattle.polcert_model.specs.Contents.{meaning}
use Rattle.polcert_points.specs.PointStartMost.{scaled_start}
use Rattle.polcert_points.specs.PointTable.{charge_at}
use Rattle.polcert_points.specs.Steps.PointSums.{IsLeastWorth}
use Rattle.polcert_points.proofs.start_most.least_worth.Given as goal

-- the least over the points so far
abbrev pub invariant-loop-j : goal.invariant-loop-j
invariant-loop-j g l = record {
  least : IsLeastWorth (table_of (meaning l.input.cells.now)) (charge_at (g.P.BeliefPoints.table l.input.points.now) l.input.charges.now)
      (g.P.BeliefPoints.table l.input.points.now).points (scaled_start (meaning l.input.cells.now)) l.j l.least;
  others : (s : ℕ) → s < states_of (meaning l.input.cells.now) → start_weight (meaning l.input.cells.now) s ≡ 0
      → slice_index l.belief s ≡ 0;
}
