use Rattle.polcert_examples.proofs.RefusedExamples.{above_one_refused}
use Rattle.polcert_examples.proofs.examples.discount_above_one.Goals as goal

pub returns : goal.returns
returns c = above_one_refused
