use Rattle.std.proofs.Common.{◌∙◌, rules}
use Rattle.polcert_text.proofs.Printing.Written.{as_text}
use Rattle.polcert_full_form.proofs.Printing.WrittenParts.{no_turn, turn_written, turn_failed}
use Rattle.polcert_full_form.proofs.Printing.PrintedZeros.{zero_at}
use Rattle.polcert_full_form.proofs.print_words.write_zeros.Goals as goal

pub loop-number-init : goal.loop-number-init
loop-number-init g c = no_turn

pub returns-in_err-write_all : goal.returns-in_err-write_all
returns-in_err-write_all g c =
    turn_failed c.args.count c.loop-number.invariant (as_text (c.text_at_place.ensures ∙ zero_at _) c.in_err-write_all.ensures)
    (search rules)
    (search rules)

pub loop-number-preserved : goal.loop-number-preserved
loop-number-preserved g c = turn_written c.loop-number.invariant (as_text (c.text_at_place.ensures ∙ zero_at _) c.in_ok-write_all.ensures)
