use Rattle.polcert_policy.proofs.FlatGraphs as laws
use Rattle.polcert_policy.proofs.laws.graphs_by_index.Goals as goal

pub returns : goal.returns
returns c = record {
  indexed = λ a o ts g are. (laws.loose_from a o ts g are, laws.bound_from a o ts g are);
  flat = laws.tokens_of_graph;
}
