use Rattle.polcert_policy.proofs.FlatGraphs.{bound_from, graph_from}
use Rattle.polcert_policy.proofs.LimitLaws as laws
use Rattle.polcert_policy.proofs.laws.graph_within_limits.Goals as goal

pub returns : goal.returns
returns c = record {
  counts = λ actions observations text g is. (is.2.actions_are, is.2.observations_are);
  nodes = λ actions observations text g is. (is.2.some, is.2.few);
  actions = λ actions observations text g is n l. is.2.actions_known n 0 l;
  successors = λ actions observations text g is. bound_from actions observations is.0 g is.2;
  proper = λ actions observations text g few_actions some few is. laws.graph_proper actions observations is.0 g few_actions some few
      (graph_from actions observations is.0 g is.2);
}
