use Rattle.std.proofs.Common.{rules}
use Rattle.polcert_robust_answer.proofs.moves.NearRaisingNearMover.rounding.Goals as goal

pub returns : goal.returns
returns c = search rules
