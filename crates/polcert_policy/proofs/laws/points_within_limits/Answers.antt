use Rattle.polcert_policy.proofs.OnePointsRefusal.{points_proper}
use Rattle.polcert_policy.proofs.laws.points_within_limits.Goals as goal

pub returns : goal.returns
returns c = record { counts = λ s a z text p is. (is.2.states_are, is.2.actions_are, is.2.observations_are); proper = points_proper }
