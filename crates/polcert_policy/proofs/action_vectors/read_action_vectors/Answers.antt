use Rattle.std.proofs.Common.{rules}
use Rattle.polcert_policy.proofs.action_vectors.read_action_vectors.Goals as goal

pub returns-clause-accepted : goal.returns-clause-accepted
returns-clause-accepted c = search rules

pub returns-clause-refused : goal.returns-clause-refused
returns-clause-refused c = search rules
