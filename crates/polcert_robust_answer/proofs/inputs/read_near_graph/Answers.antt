use Rattle.std.proofs.Common.{refl, arith}
use Rattle.polcert_robust_answer.proofs.Common.{meaning}
use Rattle.polcert_answer.proofs.Denoted.{graph_refused}
use Rattle.polcert_answer.proofs.Refusing.{each_text, named_rightly}
use Rattle.polcert_robust_answer.proofs.inputs.read_near_graph.Goals as goal

pub read_graph_from-requires : goal.read_graph_from-requires
read_graph_from-requires g c = grind arith

pub returns-in-Ok-clause-accepted : goal.returns-in-Ok-clause-accepted
returns-in-Ok-clause-accepted g c = rw (c.actions.ensures.elements, c.observations.ensures.elements) at
    c.in-Ok.ensures.read.accepted

pub returns-in-Ok-clause-read : goal.returns-in-Ok-clause-read
returns-in-Ok-clause-read g c = named_rightly c.in-Ok.ensures.read (λ named. absurd (cc)) (λ is. absurd (cc))

pub returns-in-Err-Refused : goal.returns-in-Err-Refused
returns-in-Err-Refused g c =
    let refused = rw (c.actions.ensures.elements, c.observations.ensures.elements) at c.in-Err-Refused.ensures.read.refused in
    record {
      accepted = tt;
      refused = λ fault same first is. each_text (graph_refused first fault (meaning c.args.model.now) is) (refused fault (cc));
      read = named_rightly c.in-Err-Refused.ensures.read (λ named. absurd (cc)) (λ is. absurd (cc));
      of_a_graph = tt;
    }

pub returns-in-Err-Device-clause-read : goal.returns-in-Err-Device-clause-read
returns-in-Err-Device-clause-read g c = named_rightly c.in-Err-Device.ensures.read (λ named. cc) (λ is. refl)

pub returns-in-Err-Device-clause-of_a_graph : goal.returns-in-Err-Device-clause-of_a_graph
returns-in-Err-Device-clause-of_a_graph g c = tt
