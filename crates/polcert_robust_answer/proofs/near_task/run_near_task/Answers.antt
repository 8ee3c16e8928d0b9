use Rattle.std.proofs.Common.{rules}
use Rattle.polcert_robust_answer.proofs.near_task.run_near_task.Goals as goal

pub returns-in-Ok-run_near_lower-clause-lower : goal.returns-in-Ok-run_near_lower-clause-lower
returns-in-Ok-run_near_lower-clause-lower g c = search rules
