use Rattle.std.proofs.Common.{rules}
use Rattle.polcert_policy.proofs.vectors.Vectors.values.Goals as goal

pub returns : goal.returns
returns c = search rules
