use Rattle.polcert_examples.proofs.Tiger.{tiger_denotes}
use Rattle.polcert_examples.proofs.examples.tiger_problem.Goals as goal

pub returns-clause-denotes : goal.returns-clause-denotes
returns-clause-denotes c = tiger_denotes
