use Rattle.std.proofs.Common.{refl}
use Rattle.polcert_robust_answer.proofs.Common.{meaning}
use Rattle.polcert_answer.proofs.Denoted.{vectors_refused}
use Rattle.polcert_answer.proofs.Refusing.{each_text, named_rightly}
use Rattle.polcert_robust_answer.proofs.inputs.read_near_vectors.Goals as goal

pub returns-in-Ok-clause-accepted : goal.returns-in-Ok-clause-accepted
returns-in-Ok-clause-accepted g c = rw c.states.ensures.elements at c.in-Ok.ensures.read.accepted

pub returns-in-Ok-clause-read : goal.returns-in-Ok-clause-read
returns-in-Ok-clause-read g c = named_rightly c.in-Ok.ensures.read (λ named. absurd (cc)) (λ is. absurd (cc))

pub returns-in-Err-Refused : goal.returns-in-Err-Refused
returns-in-Err-Refused g c =
    let refused = rw c.states.ensures.elements at c.in-Err-Refused.ensures.read.refused in
    record {
      accepted = tt;
      refused = λ fault same first second has.
          each_text (vectors_refused c.args.rounding first second fault (meaning c.args.model.now) c.args.graph.now has)
          (refused fault (cc));
      read = named_rightly c.in-Err-Refused.ensures.read (λ named. absurd (cc)) (λ is. absurd (cc));
      of_vectors = tt;
    }

pub returns-in-Err-Device-clause-read : goal.returns-in-Err-Device-clause-read
returns-in-Err-Device-clause-read g c = named_rightly c.in-Err-Device.ensures.read (λ named. cc) (λ is. refl)

pub returns-in-Err-Device-clause-of_vectors : goal.returns-in-Err-Device-clause-of_vectors
returns-in-Err-Device-clause-of_vectors g c = tt
