use Rattle.std.proofs.Common.{◌≡◌}
use Rattle.polcert_check.proofs.Common.{input_controller, checked_controller, IsFoundBefore, IsOfAction}
use Rattle.polcert_check.proofs.survey.survey_action.Given as goal

abbrev pub invariant-loop-n : goal.invariant-loop-n
invariant-loop-n g l = record {
  of_action : IsOfAction (input_controller l.input).cells l.a l.survey;
  found : IsFoundBefore (checked_controller l.input) l.a l.n 0 l.survey.findings;
  mode : l.survey.findings.mode ≡ l.fn.survey.findings.mode;
}
