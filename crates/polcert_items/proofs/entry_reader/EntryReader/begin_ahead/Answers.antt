use Rattle.std.proofs.Common.{◌≤◌, ◌∙◌, length, drop, refl, ap, subst}
use Rattle.polcert_items.proofs.Common.{cells_in, indices_in, least_written, of_probabilities, of_rewards}
use Rattle.polcert_items.specs.declared.entry_reader.EntryState.TheVariants as states
use Rattle.polcert_items.specs.Steps.Ahead.{with_state}
use Rattle.polcert_items.proofs.AheadLists.{list_begins, no_reward, probabilities_stand, rewards_stand}
use Rattle.polcert_items.proofs.entry_reader.EntryReader.begin_ahead.Goals as goal

pub returns-in-Some-clause-begun : goal.returns-in-Some-clause-begun
returns-in-Some-clause-begun c =
    let k = c.args.known.now in
    let r = c.args.self.now in
    let low = subst (λ b. least_written b r.table ≤ length r.places) c.is_mdp.ensures
    (subst (λ n. least_written c.is_mdp.result r.table ≤ n) c.len-written.ensures
    (c.takes_numbers.ensures.0 c.if-not-takes_numbers.false)) in
    let cells = c.cells_after-needed.ensures ∙ ap (λ n. cells_in (drop n (indices_in k r.table))) c.len-written.ensures in
    list_begins of_rewards states.Rewards k (with_state r states.Body) (rewards_stand r.table c.in-Reward.is) c.cells_after-needed.result
    refl c.requires.1 low cells c.in-Some.list.numbers c.args.bytes.now c.in-Some.list.len c.in-Some.ensures.ahead c.in-Some.ensures.some

pub returns-in-Some-list_ahead-clause-begun : goal.returns-in-Some-list_ahead-clause-begun
returns-in-Some-list_ahead-clause-begun c =
    let k = c.args.known.now in
    let r = c.args.self.now in
    let low = subst (λ b. least_written b r.table ≤ length r.places) c.is_mdp.ensures
    (subst (λ n. least_written c.is_mdp.result r.table ≤ n) c.len-written.ensures
    (c.takes_numbers.ensures.0 c.if-not-takes_numbers.false)) in
    let cells = c.cells_after-needed.ensures ∙ ap (λ n. cells_in (drop n (indices_in k r.table))) c.len-written.ensures in
    list_begins of_probabilities states.Probabilities k (with_state r states.Body)
    (probabilities_stand r.table (no_reward r.table c.in-Transition.is)) c.cells_after-needed.result refl c.requires.1 low cells
    c.in-Some-list_ahead.list.numbers c.args.bytes.now c.in-Some-list_ahead.list.len c.in-Some-list_ahead.ensures.ahead
    c.in-Some-list_ahead.ensures.some
