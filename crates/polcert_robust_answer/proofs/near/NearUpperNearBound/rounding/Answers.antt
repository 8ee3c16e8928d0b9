use Rattle.std.proofs.Common.{rules}
use Rattle.polcert_robust_answer.proofs.near.NearUpperNearBound.rounding.Goals as goal

pub returns : goal.returns
returns c = search rules
