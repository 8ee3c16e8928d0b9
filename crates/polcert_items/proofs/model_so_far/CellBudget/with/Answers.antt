use Rattle.std.proofs.Common.{◌∙◌, sym, subst}
use Rattle.polcert_items.proofs.Common.{entry_of}
use Rattle.polcert_items.specs.Steps.CellBudget.{IsCoveredWith}
use Rattle.polcert_items.proofs.CoveringLaws.{IsWith, observations_few, transitions_with, observations_with, rewards_with}
use Rattle.polcert_items.proofs.model_so_far.CellBudget.with.Goals as goal

pub add_cells-requires-in-Observation-clause-nonzero_cells : goal.add_cells-requires-in-Observation-clause-nonzero_cells
add_cells-requires-in-Observation-clause-nonzero_cells c =
    observations_few c.requires.0 c.requires.1 c.args.self c.args.sizes (entry_of c.args.entry) c.requires.2 c.in-Observation.is

pub returns-in_err-self-in-Transition : goal.returns-in_err-self-in-Transition
returns-in_err-self-in-Transition c = λ p es next.
    let a = c.args in
    subst (IsCoveredWith p es (entry_of a.entry)) (sym c.from_residual.ensures)
    (subst (IsWith p es (entry_of a.entry) (λ n. record a.self { transitions = n }))
    (sym c.add_cells.ensures ∙ c.in_err-self-in-Transition.was)
    (transitions_with p es a.self a.sizes (entry_of a.entry) next c.in-Transition.is))

pub returns-in_ok-self-in-Transition : goal.returns-in_ok-self-in-Transition
returns-in_ok-self-in-Transition c = λ p es next.
    let a = c.args in
    subst (IsWith p es (entry_of a.entry) (λ n. record a.self { transitions = n }))
    (sym c.add_cells.ensures ∙ c.in_ok-self-in-Transition.was)
    (transitions_with p es a.self a.sizes (entry_of a.entry) next c.in-Transition.is)

pub returns-in_err-self-in-Observation : goal.returns-in_err-self-in-Observation
returns-in_err-self-in-Observation c = λ p es next.
    let a = c.args in
    subst (IsCoveredWith p es (entry_of a.entry)) (sym c.from_residual-in_err-self-in-Observation.ensures)
    (subst (IsWith p es (entry_of a.entry) (λ n. record a.self { observations = n }))
    (sym c.add_cells-in-Observation.ensures ∙ c.in_err-self-in-Observation.was)
    (observations_with p es a.self a.sizes (entry_of a.entry) next c.in-Observation.is))

pub returns-in_ok-self-in-Observation : goal.returns-in_ok-self-in-Observation
returns-in_ok-self-in-Observation c = λ p es next.
    let a = c.args in
    subst (IsWith p es (entry_of a.entry) (λ n. record a.self { observations = n }))
    (sym c.add_cells-in-Observation.ensures ∙ c.in_ok-self-in-Observation.was)
    (observations_with p es a.self a.sizes (entry_of a.entry) next c.in-Observation.is)

pub returns-in_err-self-in-Reward : goal.returns-in_err-self-in-Reward
returns-in_err-self-in-Reward c = λ p es next.
    let a = c.args in
    subst (IsCoveredWith p es (entry_of a.entry)) (sym c.from_residual-in_err-self-in-Reward.ensures)
    (subst (IsWith p es (entry_of a.entry) (λ n. record a.self { rewards = n }))
    (sym c.count_reward_entry.ensures ∙ c.in_err-self-in-Reward.was)
    (rewards_with p es a.self a.sizes (entry_of a.entry) next c.in-Reward.is))

pub returns-in_ok-self-in-Reward : goal.returns-in_ok-self-in-Reward
returns-in_ok-self-in-Reward c = λ p es next.
    let a = c.args in
    subst (IsWith p es (entry_of a.entry) (λ n. record a.self { rewards = n }))
    (sym c.count_reward_entry.ensures ∙ c.in_ok-self-in-Reward.was)
    (rewards_with p es a.self a.sizes (entry_of a.entry) next c.in-Reward.is)
