use Rattle.std.proofs.Common.{arith}
use Rattle.polcert_policy.proofs.ReadLaws.{refusal_handed_on}
use Rattle.polcert_policy.proofs.VectorReadLaws.{refuse_vector_action, read_vector_action}
use Rattle.polcert_policy.proofs.vectors_reading.VectorsReading.take_action.Goals as goal

pub returns-in_err-check_action-clause-takes : goal.returns-in_err-check_action-clause-takes
returns-in_err-check_action-clause-takes c = grind (arith, refusal_handed_on, refuse_vector_action)

pub returns-clause-takes : goal.returns-clause-takes
returns-clause-takes c = grind (arith, read_vector_action)
