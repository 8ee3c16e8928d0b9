use Rattle.std.proofs.Common.{◌≡◌, ℕ, ◌+◌, ◌<◌, ◌≤◌}
use Rattle.polcert_optimum.proofs.Common.{value_of, sum_of, value_until}
use Rattle.polcert_optimum.proofs.observation_sums.ObservationSums.add_numbers.Given as goal

-- the end state is added to the sums of the observations so far
abbrev pub invariant-loop-z : goal.invariant-loop-z
invariant-loop-z g l = record {
  done : (k : ℕ) → k < l.z → sum_of l.self.sums k ≡ value_until (g.C.Cells.table l.pair.cells.now) (value_of l.pair.vectors.now l.next)
      l.pair.action l.pair.state (l.end.column + 1) k;
  rest : (k : ℕ) → l.z ≤ k → k < (g.C.Cells.table l.pair.cells.now).observations → sum_of l.self.sums k
      ≡ value_until (g.C.Cells.table l.pair.cells.now) (value_of l.pair.vectors.now l.next) l.pair.action l.pair.state l.end.column k;
}
