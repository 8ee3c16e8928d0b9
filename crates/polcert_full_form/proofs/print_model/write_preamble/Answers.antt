use Rattle.std.proofs.Common.{rules}
use Rattle.polcert_text.proofs.Printing.Written.{and_then, unwritten, stopped, as_text}
use Rattle.polcert_full_form.proofs.Common.{meaning}
use Rattle.polcert_full_form.proofs.Printing.PrintedParts as texts
use Rattle.polcert_full_form.proofs.print_model.write_preamble.Goals as goal

pub returns-in_err-write_settings : goal.returns-in_err-write_settings
returns-in_err-write_settings g c =
    as_text (texts.preamble_is (meaning c.args.model.now))
    (stopped (search rules) (unwritten _ (unwritten _ (unwritten _ c.in_err-write_settings.ensures))))

pub returns-in_err-write_elements : goal.returns-in_err-write_elements
returns-in_err-write_elements g c =
    as_text (texts.preamble_is (meaning c.args.model.now))
    (stopped (search rules) (unwritten _
    (unwritten _ (and_then c.in_ok-write_settings.ensures (rw c.elements.ensures at c.in_err-write_elements.ensures)))))

pub returns-in_err-write_elements-2 : goal.returns-in_err-write_elements-2
returns-in_err-write_elements-2 g c =
    as_text (texts.preamble_is (meaning c.args.model.now))
    (stopped (search rules) (unwritten _
    (and_then (and_then c.in_ok-write_settings.ensures (rw c.elements.ensures at c.in_ok-write_elements.ensures))
    (rw c.elements-2.ensures at c.in_err-write_elements-2.ensures))))

pub returns : goal.returns
returns g c =
    as_text (texts.preamble_is (meaning c.args.model.now))
    (and_then (and_then (and_then c.in_ok-write_settings.ensures (rw c.elements.ensures at c.in_ok-write_elements.ensures))
    (rw c.elements-2.ensures at c.in_ok-write_elements-2.ensures)) c.write_observations.ensures)
