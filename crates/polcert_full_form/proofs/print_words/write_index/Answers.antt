use Rattle.std.proofs.Common.{rules}
use Rattle.polcert_text.proofs.Printing.Written.{and_then, unwritten, stopped, as_text}
use Rattle.polcert_full_form.proofs.print_words.write_index.Goals as goal

pub returns-in_err-write_all : goal.returns-in_err-write_all
returns-in_err-write_all g c = stopped (search rules) (unwritten _ (as_text c.text_at_place.ensures c.in_err-write_all.ensures))

pub returns : goal.returns
returns g c = and_then (as_text c.text_at_place.ensures c.in_ok-write_all.ensures) c.write_number.ensures
