use Rattle.std.proofs.Common.{rules}
use Rattle.polcert_answer.proofs.task.run_task.Goals as goal

pub returns-in-Ok-run_lower_watched-clause-lower : goal.returns-in-Ok-run_lower_watched-clause-lower
returns-in-Ok-run_lower_watched-clause-lower g c = search rules
