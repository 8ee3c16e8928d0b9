use Rattle.std.proofs.Common.{refl}
use Rattle.polcert_answer.proofs.Refusing.{each_text, model_refused, named_rightly}
use Rattle.polcert_answer.proofs.runs.model_of_run.Goals as goal

pub returns-in-Ok-clause-accepted : goal.returns-in-Ok-clause-accepted
returns-in-Ok-clause-accepted g c = c.in-Ok.ensures.read.accepted

pub returns-in-Ok-clause-read : goal.returns-in-Ok-clause-read
returns-in-Ok-clause-read g c = named_rightly c.in-Ok.ensures.read (λ named. absurd (cc)) (λ is. absurd (cc))

pub returns-in-Err-Refused : goal.returns-in-Err-Refused
returns-in-Err-Refused g c = record {
  accepted = tt;
  refused = λ fault same. each_text (model_refused fault) (c.in-Err-Refused.ensures.read.refused fault (cc));
  read = named_rightly c.in-Err-Refused.ensures.read (λ named. absurd (cc)) (λ is. absurd (cc));
  of_a_model = tt;
}

pub returns-in-Err-Device-clause-read : goal.returns-in-Err-Device-clause-read
returns-in-Err-Device-clause-read g c = named_rightly c.in-Err-Device.ensures.read (λ named. cc) (λ is. refl)

pub returns-in-Err-Device-clause-refused : goal.returns-in-Err-Device-clause-refused
returns-in-Err-Device-clause-refused g c = λ fault same. absurd (cc)
