use Rattle.std.proofs.Common.{◌≡◌, ℕ, ◌<◌, pos}
use Rattle.polcert_optimum.proofs.Common.{sum_of}
use Rattle.polcert_optimum.proofs.observation_sums.ObservationSums.clear.Given as goal

abbrev pub invariant-loop-z : goal.invariant-loop-z
invariant-loop-z l = (k : ℕ) → k < l.z → sum_of l.self.sums k ≡ pos 0
