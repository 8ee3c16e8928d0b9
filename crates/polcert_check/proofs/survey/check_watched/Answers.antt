use Rattle.polcert_check.proofs.Walking.Answering.{surveyed}
use Rattle.polcert_check.proofs.survey.check_watched.Goals as goal

pub returns : goal.returns
returns g c =
    let says = rw c.new-input.ensures.checked_controller at
    (surveyed _ _ c.new-input.result.proper (g.met.C.Cells.is_within_limits _) c.new-input.result.values _
    c.survey.ensures.mode c.survey.ensures.found) in
    record { verdict = says.0; horizon = says.1; small = says.2 }
