use Rattle.std.proofs.Common.{rules}
use Rattle.polcert_text.proofs.Printing.Written.{and_then, unwritten, stopped}
use Rattle.polcert_full_form.proofs.print_words.write_head.Goals as goal

pub returns-in_err-write_pattern : goal.returns-in_err-write_pattern
returns-in_err-write_pattern g c = stopped (search rules) (unwritten _ c.in_err-write_pattern.ensures)

pub returns : goal.returns
returns g c = and_then c.in_ok-write_pattern.ensures c.write_all.ensures
