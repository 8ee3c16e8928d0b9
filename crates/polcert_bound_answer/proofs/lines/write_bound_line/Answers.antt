use Rattle.std.proofs.Common.{rules}
use Rattle.polcert_bound_answer.proofs.lines.write_bound_line.Goals as goal

pub returns-in-Exceeded : goal.returns-in-Exceeded
returns-in-Exceeded g c = search rules
