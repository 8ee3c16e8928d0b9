use Rattle.polcert_robust_answer.proofs.NearLaws.{laws_below}
use Rattle.polcert_robust_answer.proofs.near.NearLowerNearBound.laws.Goals as goal

pub returns : goal.returns
returns c = laws_below
