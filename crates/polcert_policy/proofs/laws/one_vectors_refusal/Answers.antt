use Rattle.polcert_policy.proofs.Common.{Down}
use Rattle.polcert_policy.proofs.OneVectorsRefusal as laws
use Rattle.polcert_policy.proofs.laws.one_vectors_refusal.Goals as goal

pub returns : goal.returns
returns c = record { down = laws.one_refusal Down; either_way = laws.one_refusal }
