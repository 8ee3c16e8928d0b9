use Rattle.polcert_robust_answer.proofs.NearLaws.{laws_above}
use Rattle.polcert_robust_answer.proofs.near.NearUpperNearBound.laws.Goals as goal

pub returns : goal.returns
returns c = laws_above
