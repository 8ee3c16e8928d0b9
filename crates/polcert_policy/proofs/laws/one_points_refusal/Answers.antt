use Rattle.polcert_policy.proofs.OnePointsRefusal as laws
use Rattle.polcert_policy.proofs.laws.one_points_refusal.Goals as goal

pub returns : goal.returns
returns c = laws.one_refusal
