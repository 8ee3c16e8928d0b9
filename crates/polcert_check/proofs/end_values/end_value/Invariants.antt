use Rattle.std.proofs.Common.{◌≡◌, ◌-◌, ◌≤◌}
use Rattle.polcert_check.proofs.Common.{node_controller, total_below, value_term, IsLeastOf, Misses, reached}
use Rattle.polcert_check.proofs.end_values.end_value.Given as goal

-- the sum so far, and the least observation so far that misses
abbrev pub invariant-loop-observation : goal.invariant-loop-observation
invariant-loop-observation g l = record {
  sum : l.value ≡ total_below (λ z. value_term (node_controller l.node) l.node.n l.e z ((node_controller l.node).next l.node.n z))
      (reached l.row l.at);
  least : IsLeastOf (Misses (node_controller l.node) l.node.n l.e (reached l.row l.at)) l.missing;
  within : reached l.row l.at ≤ (node_controller l.node).cells.observations;
}

abbrev pub decreases-loop-observation : goal.decreases-loop-observation
decreases-loop-observation g l = (node_controller l.node).cells.observations - reached l.row l.at
