use Rattle.std.proofs.Common.{rules}
use Rattle.polcert_answer.proofs.bound.UpperBound.rounding.Goals as goal

pub returns : goal.returns
returns c = search rules
