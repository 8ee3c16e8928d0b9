use Rattle.std.proofs.Common.{refl, arith}
use Rattle.polcert_points_answer.proofs.Common.{meaning}
use Rattle.polcert_answer.proofs.Refusing.{each_text, named_rightly}
use Rattle.polcert_points_answer.proofs.Denoted.{points_refused}
use Rattle.polcert_points_answer.proofs.inputs.points_of_run.Goals as goal

pub read_points_from-requires : goal.read_points_from-requires
read_points_from-requires g c = grind arith

pub returns-in-Ok-clause-accepted : goal.returns-in-Ok-clause-accepted
returns-in-Ok-clause-accepted g c = rw (c.states-states.ensures.elements, c.actions.ensures.elements, c.observations.ensures.elements) at
    c.in-Ok.ensures.read.accepted

pub returns-in-Ok-clause-read : goal.returns-in-Ok-clause-read
returns-in-Ok-clause-read g c = named_rightly c.in-Ok.ensures.read (λ named. absurd (cc)) (λ is. absurd (cc))

pub returns-in-Err-Refused : goal.returns-in-Err-Refused
returns-in-Err-Refused g c =
    let refused = rw (c.states-states.ensures.elements, c.actions.ensures.elements, c.observations.ensures.elements) at
    c.in-Err-Refused.ensures.read.refused in
    record {
      accepted = tt;
      refused = λ fault same first second v has. each_text (points_refused first second fault (meaning c.args.model.now) v has)
          (refused fault (cc));
      read = named_rightly c.in-Err-Refused.ensures.read (λ named. absurd (cc)) (λ is. absurd (cc));
      of_points = tt;
    }

pub returns-in-Err-Device-clause-read : goal.returns-in-Err-Device-clause-read
returns-in-Err-Device-clause-read g c = named_rightly c.in-Err-Device.ensures.read (λ named. cc) (λ is. refl)
