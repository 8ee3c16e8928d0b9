use Rattle.polcert_answer.proofs.Above.{above_laws}
use Rattle.polcert_answer.proofs.bound.UpperBound.laws.Goals as goal

pub returns : goal.returns
returns c = above_laws
