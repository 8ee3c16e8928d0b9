use Rattle.std.proofs.Common.{◌≡◌, ◌-◌, ◌≤◌, None}
use Rattle.polcert_check.proofs.Common.{node_controller, total_below, value_term, IsLeastOf, Misses, reached}
use Rattle.polcert_check.proofs.end_values.complete_value_of_row.Given as goal

-- the sum so far, in which no observation lacks a successor
abbrev pub invariant-loop-observation : goal.invariant-loop-observation
invariant-loop-observation g l = record {
  sum : l.sum ≡ total_below (λ z. value_term (node_controller l.node) l.node.n l.e z ((node_controller l.node).next l.node.n z))
      (reached l.row l.at);
  none : IsLeastOf (Misses (node_controller l.node) l.node.n l.e (reached l.row l.at)) None;
  within : reached l.row l.at ≤ (node_controller l.node).cells.observations;
}

abbrev pub decreases-loop-observation : goal.decreases-loop-observation
decreases-loop-observation g l = (node_controller l.node).cells.observations - reached l.row l.at
