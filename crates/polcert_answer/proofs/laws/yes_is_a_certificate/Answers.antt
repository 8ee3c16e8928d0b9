use Rattle.polcert_answer.proofs.Below.{yes_certified, yes_rewarded, yes_started}
use Rattle.polcert_answer.proofs.laws.yes_is_a_certificate.Goals as goal

pub returns : goal.returns
returns c = record { promise = yes_certified; rewards = yes_rewarded; start = yes_started }
