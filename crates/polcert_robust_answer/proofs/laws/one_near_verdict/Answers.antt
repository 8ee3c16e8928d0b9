use Rattle.polcert_robust_answer.proofs.OneNear.{one_near_verdict}
use Rattle.polcert_robust_answer.proofs.laws.one_near_verdict.Goals as goal

pub returns : goal.returns
returns c = one_near_verdict
