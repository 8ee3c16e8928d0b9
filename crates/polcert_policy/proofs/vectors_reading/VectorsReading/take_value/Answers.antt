use Rattle.std.proofs.Common.{arith}
use Rattle.polcert_policy.proofs.VectorReadLaws.{refuse_other, other_kind}
use Rattle.polcert_policy.proofs.vectors_reading.VectorsReading.take_value.Goals as goal

pub returns-in_default-clause-takes : goal.returns-in_default-clause-takes
returns-in_default-clause-takes c = grind (arith, refuse_other, other_kind)
