use Rattle.std.proofs.Common.{◌≡◌, ◌-◌, ◌≤◌, pos, ◌*ℤ◌}
use Rattle.polcert_check.proofs.Common.{node_controller, total_below, factored_value_at_end, IsLeastOf, IsMissedBefore, reached}
use Rattle.polcert_check.proofs.end_values.value_of_row.Given as goal

-- the sum so far, and the least observation so far that is missed
abbrev pub invariant-loop-end : goal.invariant-loop-end
invariant-loop-end g l = record {
  sum : l.value ≡ total_below (λ e. pos ((node_controller l.node).cells.t ((node_controller l.node).action l.node.n) l.s e)
      *ℤ factored_value_at_end (node_controller l.node) l.node.n e) (reached l.row l.at);
  missing : IsLeastOf (IsMissedBefore (node_controller l.node) l.node.n l.s (reached l.row l.at)) l.missing;
  within : reached l.row l.at ≤ (node_controller l.node).cells.states;
}

abbrev pub decreases-loop-end : goal.decreases-loop-end
decreases-loop-end g l = (node_controller l.node).cells.states - reached l.row l.at
