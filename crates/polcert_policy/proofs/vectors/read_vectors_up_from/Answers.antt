use Rattle.std.proofs.Common.{rules}
use Rattle.polcert_policy.proofs.vectors.read_vectors_up_from.Goals as goal

pub returns : goal.returns
returns g c = search rules
