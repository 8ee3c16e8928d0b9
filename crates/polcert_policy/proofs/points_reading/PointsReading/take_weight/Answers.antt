use Rattle.std.proofs.Common.{arith}
use Rattle.polcert_policy.proofs.PointNumbers.{weight_small}
use Rattle.polcert_policy.proofs.points_reading.PointsReading.take_weight.Goals as goal

pub check_mass-requires-clause-small : goal.check_mass-requires-clause-small
check_mass-requires-clause-small c = grind (arith, weight_small)

pub add_weight-requires-clause-small : goal.add_weight-requires-clause-small
add_weight-requires-clause-small c = grind (arith, weight_small)
