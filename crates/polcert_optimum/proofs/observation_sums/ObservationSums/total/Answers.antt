use Rattle.std.proofs.Common.{rules}
use Rattle.polcert_optimum.proofs.Checking.Adding.{total_fits}
use Rattle.polcert_optimum.proofs.observation_sums.ObservationSums.total.Goals as goal

pub overflow_add-total : goal.overflow_add-total
overflow_add-total c = total_fits _ _ _ _ c.requires.small c.loop-z-test.true c.loop-z.invariant (search rules)
