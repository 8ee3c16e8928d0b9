use Rattle.polcert_answer.proofs.Below.{below_laws}
use Rattle.polcert_answer.proofs.bound.LowerBound.laws.Goals as goal

pub returns : goal.returns
returns c = below_laws
