use Rattle.std.proofs.Common.{rules}
use Rattle.polcert_bound_answer.proofs.status.status_of_bound_verdict.Goals as goal

pub returns-in-Exceeded : goal.returns-in-Exceeded
returns-in-Exceeded c = search rules
