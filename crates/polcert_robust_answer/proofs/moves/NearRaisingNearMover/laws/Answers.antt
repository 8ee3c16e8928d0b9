use Rattle.polcert_robust_answer.proofs.MoveLaws.{laws_raising}
use Rattle.polcert_robust_answer.proofs.moves.NearRaisingNearMover.laws.Goals as goal

pub returns : goal.returns
returns c = laws_raising
