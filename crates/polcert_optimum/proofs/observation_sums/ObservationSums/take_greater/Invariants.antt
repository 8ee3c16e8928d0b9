use Rattle.std.proofs.Common.{◌≡◌, ℕ, ◌<◌, ◌≤◌}
use Rattle.polcert_optimum.proofs.Common.{int_max, sum_of}
use Rattle.polcert_optimum.proofs.observation_sums.ObservationSums.take_greater.Given as goal

abbrev pub invariant-loop-z : goal.invariant-loop-z
invariant-loop-z l = record {
  done : (k : ℕ) → k < l.z → sum_of l.self.sums k ≡ int_max (sum_of l.fn.self.sums k) (sum_of l.other.sums k);
  rest : (k : ℕ) → l.z ≤ k → sum_of l.self.sums k ≡ sum_of l.fn.self.sums k;
}
