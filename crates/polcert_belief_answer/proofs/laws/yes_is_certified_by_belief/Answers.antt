use Rattle.polcert_answer.proofs.Below.{yes_if_certified}
use Rattle.polcert_belief_answer.proofs.Followed.{certified, certified_within}
use Rattle.polcert_belief_answer.proofs.laws.yes_is_certified_by_belief.Goals as goal

pub returns : goal.returns
returns c = record {
  exactly = certified;
  headline = λ model graph vectors holds. certified model graph vectors (yes_if_certified model graph vectors holds);
  within = certified_within;
}
