use Rattle.polcert_policy.proofs.OneText as texts
use Rattle.polcert_policy.proofs.laws.one_graph.Goals as goal

pub returns : goal.returns
returns c = texts.one_graph
