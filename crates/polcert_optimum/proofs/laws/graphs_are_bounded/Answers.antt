use Rattle.polcert_optimum.proofs.EveryGraph.{every_graph}
use Rattle.polcert_optimum.proofs.laws.graphs_are_bounded.Goals as goal

pub returns : goal.returns
returns c = every_graph
