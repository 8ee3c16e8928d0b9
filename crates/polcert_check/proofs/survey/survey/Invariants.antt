use Rattle.std.proofs.Common.{◌≡◌}
use Rattle.polcert_check.proofs.Common.{checked_controller, IsFoundBefore}
use Rattle.polcert_check.proofs.survey.survey.Given as goal

abbrev pub invariant-loop-a : goal.invariant-loop-a
invariant-loop-a g l = record {
  found : IsFoundBefore (checked_controller l.input) l.a 0 0 l.survey.findings;
  mode : l.survey.findings.mode ≡ l.fn.mode;
}
