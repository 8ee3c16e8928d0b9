use Rattle.polcert_policy.proofs.OneGraphRefusal as laws
use Rattle.polcert_policy.proofs.laws.one_graph_refusal.Goals as goal

pub returns : goal.returns
returns c = laws.one_refusal
