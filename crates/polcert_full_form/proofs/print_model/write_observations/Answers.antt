use Rattle.std.proofs.Common.{◌∙◌, ap, codes, arith}
use Rattle.polcert_text.proofs.Printing.Written.{as_text}
use Rattle.polcert_full_form.proofs.Common.{observations_line}
use Rattle.polcert_full_form.proofs.Printing.WrittenParts.{wrote_nothing}
use Rattle.polcert_full_form.proofs.Printing.PrintedParts as texts
use Rattle.polcert_full_form.proofs.print_model.write_observations.Goals as goal

pub returns-in-Some : goal.returns-in-Some
returns-in-Some g c = as_text (texts.elements_is (codes "observations:") c.in-Some.elements.now ∙ ap observations_line c.in-Some.ensures)
    c.write_elements.ensures

pub returns-in-None : goal.returns-in-None
returns-in-None g c = wrote_nothing (grind arith)
