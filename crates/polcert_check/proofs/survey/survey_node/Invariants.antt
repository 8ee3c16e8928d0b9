use Rattle.std.proofs.Common.{◌≡◌, ◌-◌}
use Rattle.polcert_check.proofs.Common.{checked_controller, node_controller, IsFoundBefore, AreEndValues}
use Rattle.polcert_check.specs.Steps.Survey.{IsPrepared}
use Rattle.polcert_check.proofs.survey.survey_node.Given as goal

abbrev pub invariant-pairs : goal.invariant-pairs
invariant-pairs g l = record {
  prepared : IsPrepared (node_controller l.node).cells ((node_controller l.node).action l.node.n) l.survey;
  ends : AreEndValues (node_controller l.node) l.node.n (node_controller l.node).cells.states l.survey.ends;
  found : IsFoundBefore (checked_controller l.node.input) ((node_controller l.node).action l.node.n) l.node.n l.s l.survey.findings;
  mode : l.survey.findings.mode ≡ l.fn.survey.findings.mode;
}

abbrev pub decreases-pairs : goal.decreases-pairs
decreases-pairs g l = (node_controller l.node).cells.states - l.s
