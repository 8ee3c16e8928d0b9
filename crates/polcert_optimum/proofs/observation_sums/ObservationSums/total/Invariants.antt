use Rattle.std.proofs.Common.{◌≡◌}
use Rattle.polcert_optimum.proofs.Common.{total_below, sum_of}
use Rattle.polcert_optimum.proofs.observation_sums.ObservationSums.total.Given as goal

abbrev pub invariant-loop-z : goal.invariant-loop-z
invariant-loop-z l = l.total ≡ total_below (sum_of l.self.sums) l.z
