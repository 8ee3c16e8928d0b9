use Rattle.std.proofs.Common.{arith}
use Rattle.polcert_policy.proofs.FullFormLaws.{reads_back}
use Rattle.polcert_policy.proofs.laws.vectors_read_back.Goals as goal

pub returns : goal.returns
returns c = grind (arith, reads_back)
