use Rattle.polcert_belief_answer.proofs.Followed.{enclosed, enclosed_seen}
use Rattle.polcert_belief_answer.proofs.laws.texts_name_a_policy.Goals as goal

pub returns : goal.returns
returns c = record { optimum = enclosed; seen = enclosed_seen }
