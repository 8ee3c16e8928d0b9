use Rattle.std.proofs.Common.{arith}
use Rattle.polcert_policy.proofs.VectorReadLaws.{refuse_second_sign, read_sign}
use Rattle.polcert_policy.proofs.vectors_reading.VectorsReading.take_sign.Goals as goal

pub returns-in-Some-clause-takes : goal.returns-in-Some-clause-takes
returns-in-Some-clause-takes c = grind (arith, refuse_second_sign)

pub returns-in-None-clause-takes : goal.returns-in-None-clause-takes
returns-in-None-clause-takes c = grind (arith, read_sign)
