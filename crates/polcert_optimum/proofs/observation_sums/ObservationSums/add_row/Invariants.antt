use Rattle.std.proofs.Common.{◌≡◌, ℕ, ◌+◌, ◌-◌, ◌<◌, ◌≤◌}
use Rattle.polcert_optimum.proofs.Common.{reached, value_of, sum_of, value_until}
use Rattle.polcert_optimum.proofs.observation_sums.ObservationSums.add_row.Given as goal

-- the end state is added to the sums of the observations that are reached
abbrev pub invariant-loop-observation : goal.invariant-loop-observation
invariant-loop-observation g l = record {
  done : (k : ℕ) → k < reached l.row l.at → sum_of l.self.sums k
      ≡ value_until (g.C.Cells.table l.cells) (value_of l.pair.vectors.now l.next) l.pair.action l.pair.state (l.end.column + 1) k;
  rest : (k : ℕ) → reached l.row l.at ≤ k → k < (g.C.Cells.table l.cells).observations
      → sum_of l.self.sums k ≡ value_until (g.C.Cells.table l.cells) (value_of l.pair.vectors.now l.next) l.pair.action l.pair.state
      l.end.column k;
  within : reached l.row l.at ≤ (g.C.Cells.table l.cells).observations;
}

abbrev pub decreases-loop-observation : goal.decreases-loop-observation
decreases-loop-observation g l = (g.C.Cells.table l.cells).observations - reached l.row l.at
