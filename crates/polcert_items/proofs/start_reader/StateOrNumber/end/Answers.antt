use Rattle.std.proofs.Common.{refl}
use Rattle.polcert_items.proofs.Common.{count_of, state_number}
use Rattle.polcert_items.proofs.StartSeen.{digits_end_reason}
use Rattle.polcert_items.proofs.start_reader.StateOrNumber.end.Goals as goal

pub returns-in_ok-one_state-in-Some-clause-said : goal.returns-in_ok-one_state-in-Some-clause-said
returns-in_ok-one_state-in-Some-clause-said c = state_number c.in-Some.state refl c.in-Some.is
    (c.in_ok-one_state-in-Some.ensures c.args.states.now c.count.ensures)

pub returns-in-None-clause-reason : goal.returns-in-None-clause-reason
returns-in-None-clause-reason c = λ body seen. (refl, digits_end_reason (count_of c.args.states.now) body c.args.self seen)
