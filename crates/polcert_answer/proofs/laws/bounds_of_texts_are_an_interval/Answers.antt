use Rattle.polcert_answer.proofs.Above.{interval}
use Rattle.polcert_answer.proofs.laws.bounds_of_texts_are_an_interval.Goals as goal

pub returns : goal.returns
returns c = interval
