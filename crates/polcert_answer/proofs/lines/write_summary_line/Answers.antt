use Rattle.std.proofs.Common.{rules}
use Rattle.polcert_text.proofs.Printing.Written.{and_then, unwritten, stopped}
use Rattle.polcert_answer.proofs.lines.write_summary_line.Goals as goal

pub returns-in_err-write_counts : goal.returns-in_err-write_counts
returns-in_err-write_counts g c = stopped (search rules) (unwritten _ c.in_err-write_counts.ensures)

pub returns : goal.returns
returns g c = and_then c.in_ok-write_counts.ensures c.write_discount.ensures
