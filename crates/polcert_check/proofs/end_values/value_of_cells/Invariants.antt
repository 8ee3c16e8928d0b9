use Rattle.std.proofs.Common.{◌≡◌, ◌≤◌, pos, ◌+ℤ◌, ◌*ℤ◌}
use Rattle.polcert_check.proofs.Common.{node_controller, total_below, factored_value_at_end, IsLeastOf, IsMissedBefore, after_cells}
use Rattle.polcert_check.proofs.end_values.value_of_cells.Given as goal

-- the sum so far, the least observation so far that is missed, and how much of the scale is left
abbrev pub invariant-row : goal.invariant-row
invariant-row g l = record {
  sum : l.value ≡ total_below (λ e. pos ((node_controller l.node).cells.t ((node_controller l.node).action l.node.n) l.s e)
      *ℤ factored_value_at_end (node_controller l.node) l.node.n e) (after_cells 0 l.cells l.place);
  missing : IsLeastOf (IsMissedBefore (node_controller l.node) l.node.n l.s (after_cells 0 l.cells l.place)) l.missing;
  within : after_cells 0 l.cells l.place ≤ (node_controller l.node).cells.states;
  left : total_below (λ e. pos ((node_controller l.node).cells.t ((node_controller l.node).action l.node.n) l.s e))
      (after_cells 0 l.cells l.place) +ℤ pos l.left ≡ pos (node_controller l.node).cells.t_scale;
}

abbrev pub decreases-row : goal.decreases-row
decreases-row g l = l.left
