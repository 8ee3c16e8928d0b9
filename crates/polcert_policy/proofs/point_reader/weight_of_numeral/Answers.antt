use Rattle.std.proofs.Common.{arith}
use Rattle.polcert_policy.proofs.Common.{ints}
use Rattle.polcert_policy.proofs.PointNumbers.{floor_positive, below_one, ceiling_above, floor_weight, small_ceiling}
use Rattle.polcert_policy.proofs.point_reader.weight_of_numeral.Goals as goal

pub overflow_cast-result : goal.overflow_cast-result
overflow_cast-result c = grind (arith, ints, floor_positive)

pub returns-then-floor : goal.returns-then-floor
returns-then-floor c = grind (arith, ints, floor_positive, below_one)

pub returns-then-ceiling : goal.returns-then-ceiling
returns-then-ceiling c = grind (arith, ints, ceiling_above)

pub returns : goal.returns
returns c =
    let floor = c.in_ok-floor.ensures.value in
    let ceiling = c.in_ok-ceiling.ensures.value in
    floor_weight c.args.numeral.now c.in_ok-floor.floor floor.0
    (small_ceiling c.args.numeral.now c.in_ok-ceiling.ceiling ceiling.0 ceiling.1 c.if-ceiling.false) floor.1
