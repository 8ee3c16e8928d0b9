use Rattle.std.proofs.Common.{arith, refl}
use Rattle.polcert_optimum.proofs.Checking.Adding.{filled_more}
use Rattle.polcert_optimum.proofs.observation_sums.ObservationSums.clear.Goals as goal

pub loop-z-preserved : goal.loop-z-preserved
loop-z-preserved c = filled_more _ _ _ _ (omega arith) c.loop-z.invariant refl
