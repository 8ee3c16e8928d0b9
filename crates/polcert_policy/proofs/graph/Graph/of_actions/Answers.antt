use Rattle.std.proofs.Common.{arith}
use Rattle.std.proofs.lemmas.List.{replicate_more}
use Rattle.polcert_policy.proofs.ActionGraphs.{one_more, action_graph_proper}
use Rattle.polcert_policy.proofs.graph.Graph.of_actions.Goals as goal

pub loop-action-preserved : goal.loop-action-preserved
loop-action-preserved c = grind (arith, replicate_more, one_more)

pub new-requires : goal.new-requires
new-requires c = grind (arith, action_graph_proper)
