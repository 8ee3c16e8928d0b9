use Rattle.std.proofs.Common.{rules}
use Rattle.polcert_text.proofs.Printing.Written.{and_then, unwritten, stopped}
use Rattle.polcert_full_form.proofs.print_model.write_elements.Goals as goal

pub returns-in_err-write_all : goal.returns-in_err-write_all
returns-in_err-write_all g c = stopped (search rules) (unwritten _ (unwritten _ c.in_err-write_all.ensures))

pub returns-in_err-write_element_words : goal.returns-in_err-write_element_words
returns-in_err-write_element_words g c = stopped (search rules)
    (unwritten _ (and_then c.in_ok-write_all.ensures c.in_err-write_element_words.ensures))

pub returns : goal.returns
returns g c = and_then (and_then c.in_ok-write_all.ensures c.in_ok-write_element_words.ensures) c.write_all-2.ensures
