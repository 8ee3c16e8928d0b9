use Rattle.std.proofs.Common.{rules}
use Rattle.polcert_text.proofs.Printing.Written.{and_then, unwritten, stopped, as_text}
use Rattle.polcert_full_form.proofs.print_model.write_start_line.Goals as goal

pub returns-in_err-write_all : goal.returns-in_err-write_all
returns-in_err-write_all g c = stopped (search rules) (unwritten _ (unwritten _ (as_text c.word.ensures c.in_err-write_all.ensures)))

pub returns-in_err-write_start_parts : goal.returns-in_err-write_start_parts
returns-in_err-write_start_parts g c =
    stopped (search rules) (unwritten _ (and_then (as_text c.word.ensures c.in_ok-write_all.ensures) c.in_err-write_start_parts.ensures))

pub returns : goal.returns
returns g c = and_then (and_then (as_text c.word.ensures c.in_ok-write_all.ensures) c.in_ok-write_start_parts.ensures) c.write_all-2.ensures
