use Rattle.std.proofs.Common.{arith}
use Rattle.polcert_optimum.proofs.Checking.Adding.{values_on}
use Rattle.polcert_optimum.proofs.observation_sums.ObservationSums.fill.Goals as goal

pub loop-end-init : goal.loop-end-init
loop-end-init g c = grind arith

pub add_end-requires-clause-sums : goal.add_end-requires-clause-sums
add_end-requires-clause-sums g c = grind (arith, values_on)

pub returns : goal.returns
returns g c = grind (arith, values_on)
