use Rattle.std.proofs.Common.{◌≡◌, None, replicate}
use Rattle.polcert_policy.proofs.Common.{range_with_len}
use Rattle.polcert_policy.proofs.graph.Graph.of_actions.Given as goal

-- the nodes so far
abbrev pub invariant-loop-action : goal.invariant-loop-action
invariant-loop-action l = record {
  chosen : l.chosen.items ≡ range_with_len 0 l.action;
  successors : l.successors.items ≡ replicate l.action None;
}
