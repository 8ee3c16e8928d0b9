use Rattle.std.proofs.Common.{arith}
use Rattle.polcert_policy.proofs.ActionGraphs as graphs
use Rattle.polcert_policy.proofs.laws.action_graph_has_every_action.Goals as goal

pub returns : goal.returns
returns c = grind (arith, graphs.node_count, graphs.takes_its_action, graphs.action_graph_proper)
