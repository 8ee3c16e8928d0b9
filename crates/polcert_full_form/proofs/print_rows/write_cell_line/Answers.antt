use Rattle.std.proofs.Common.{rules, arith}
use Rattle.polcert_text.proofs.Printing.Written.{and_then, unwritten, stopped, as_text}
use Rattle.polcert_full_form.proofs.print_rows.write_cell_line.Goals as goal

pub returns-in_err-write_pattern : goal.returns-in_err-write_pattern
returns-in_err-write_pattern g c = stopped (search rules) (unwritten _ (unwritten _ (unwritten _ c.in_err-write_pattern.ensures)))

pub returns-in_err-write_all : goal.returns-in_err-write_all
returns-in_err-write_all g c = stopped (search rules)
    (unwritten _ (unwritten _ (and_then c.in_ok-write_pattern.ensures c.in_err-write_all.ensures)))

pub returns-in_err-write_scaled : goal.returns-in_err-write_scaled
returns-in_err-write_scaled g c =
    stopped (search rules) (unwritten _ (and_then (and_then c.in_ok-write_pattern.ensures c.in_ok-write_all.ensures)
    (as_text (grind arith) c.in_err-write_scaled.ensures.written)))

pub returns : goal.returns
returns g c =
    and_then (and_then (and_then c.in_ok-write_pattern.ensures c.in_ok-write_all.ensures)
    (as_text (grind arith) c.in_ok-write_scaled.ensures.written)) c.write_all-2.ensures
