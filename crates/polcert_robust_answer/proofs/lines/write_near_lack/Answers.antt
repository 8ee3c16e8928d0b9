use Rattle.std.proofs.Common.{rules}
use Rattle.polcert_text.proofs.Printing.Written.{and_then, unwritten, stopped}
use Rattle.polcert_robust_answer.proofs.lines.write_near_lack.Goals as goal

pub returns-in_err-write_near_pair : goal.returns-in_err-write_near_pair
returns-in_err-write_near_pair g c = stopped (search rules) (unwritten _ c.in_err-write_near_pair.ensures)

pub returns : goal.returns
returns g c = and_then c.in_ok-write_near_pair.ensures c.write_count.ensures
