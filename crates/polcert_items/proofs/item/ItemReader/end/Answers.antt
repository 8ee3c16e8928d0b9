use Rattle.std.proofs.Common.{subst}
use Rattle.polcert_items.proofs.Common.{err_from_is_err_and, most_states, most_actions, most_observations, IsItemWithin}
use Rattle.polcert_items.proofs.ItemReading.{start_late_end, start_stuck_end}
use Rattle.polcert_items.proofs.item.ItemReader.end.Goals as goal

pub returns-in_err-end-in-Start-clause-late : goal.returns-in_err-end-in-Start-clause-late
returns-in_err-end-in-Start-clause-late c = λ body late s start due.
    let p = err_from_is_err_and c.from_residual-in_err-end-in-Start.result c.from_residual-in_err-end-in-Start.ensures.1 in
    rw (p.1, p.2) (start_late_end c.args.known.now c.states.result.now c.args.self c.in-Start.reader body c.in_err-end-in-Start.field-0.0
    late c.states.ensures.states c.in-Start.is s due c.in_err-end-in-Start.ensures.due)

pub returns-in_err-end-in-Start-clause-refused : goal.returns-in_err-end-in-Start-clause-refused
returns-in_err-end-in-Start-clause-refused c = λ some.
    let p = err_from_is_err_and c.from_residual-in_err-end-in-Start.result c.from_residual-in_err-end-in-Start.ensures.1 in
    rw (p.1, p.2) (start_stuck_end c.args.known.now c.states.result.now c.args.self c.in-Start.reader _ c.states.ensures.states
    c.in-Start.is c.in_err-end-in-Start.ensures.refused)

pub returns-in_ok-end-in-States-clause-within : goal.returns-in_ok-end-in-States-clause-within
returns-in_ok-end-in-States-clause-within c = c.in_ok-end-in-States.ensures.within most_states
    (subst (IsItemWithin c.args.known.now) c.in-States.is c.requires)

pub returns-in_ok-end-in-Actions-clause-within : goal.returns-in_ok-end-in-Actions-clause-within
returns-in_ok-end-in-Actions-clause-within c = c.in_ok-end-in-Actions.ensures.within most_actions
    (subst (IsItemWithin c.args.known.now) c.in-Actions.is c.requires)

pub returns-in_ok-end-in-Observations-clause-within : goal.returns-in_ok-end-in-Observations-clause-within
returns-in_ok-end-in-Observations-clause-within c =
    c.in_ok-end-in-Observations.ensures.within most_observations (subst (IsItemWithin c.args.known.now) c.in-Observations.is c.requires)
