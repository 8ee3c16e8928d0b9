use Rattle.std.proofs.Common.{◌-◌, ◌<◌, ◌≤◌}
use Rattle.polcert_check.proofs.Common.{checked_controller, node_controller}
use Rattle.polcert_check.specs.Steps.Findings.{PassUntil}
use Rattle.polcert_check.proofs.survey.first_failure.Given as goal

-- the pairs so far pass
abbrev pub invariant-pairs : goal.invariant-pairs
invariant-pairs g l = record {
  from : l.from ≤ l.state;
  within : l.state < (node_controller l.node).cells.states;
  passed : PassUntil (checked_controller l.node.input) l.node.n l.from l.state;
}

abbrev pub decreases-pairs : goal.decreases-pairs
decreases-pairs g l = (node_controller l.node).cells.states - l.state
