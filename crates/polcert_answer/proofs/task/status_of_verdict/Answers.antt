use Rattle.std.proofs.Common.{rules}
use Rattle.polcert_answer.proofs.task.status_of_verdict.Goals as goal

pub returns-in_default : goal.returns-in_default
returns-in_default c = search rules
