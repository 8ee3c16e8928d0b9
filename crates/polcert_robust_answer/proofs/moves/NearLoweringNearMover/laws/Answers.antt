use Rattle.polcert_robust_answer.proofs.MoveLaws.{laws_lowering}
use Rattle.polcert_robust_answer.proofs.moves.NearLoweringNearMover.laws.Goals as goal

pub returns : goal.returns
returns c = laws_lowering
