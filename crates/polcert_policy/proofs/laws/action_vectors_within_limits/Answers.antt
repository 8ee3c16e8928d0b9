use Rattle.polcert_policy.proofs.ActionGraphs as graphs
use Rattle.polcert_policy.proofs.laws.action_vectors_within_limits.Goals as goal

pub returns : goal.returns
returns c = record {
  counts = graphs.action_counts;
  proper = graphs.action_vectors_proper;
}
