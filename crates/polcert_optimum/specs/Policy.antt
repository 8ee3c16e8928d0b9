-- Policies, and what one earns in k steps.
--
-- Sources: policies that depend on the history as in Puterman, Markov Decision Processes (1994), section 2.1; policies of a POMDP as
-- in Kaelbling, Littman and Cassandra, Planning and acting in partially observable stochastic domains (1998).
--
-- The runs of k steps and the scales are those of the promise for every horizon (`polcert_check`, Horizon): weights are whole
-- parts of a scale, rewards and values whole numbers of millionths, and everything is exact.
use Rattle.std.specs.Prelude.{ℕ, ◌-◌, ◌*◌, ◌^◌, ◌<◌, ℤ, pos, ◌+ℤ◌, ◌*ℤ◌, List, [], ◌∷◌, map, get_or}
use Rattle.polcert_cells.specs.Tables.{CellTable}
use Rattle.polcert_check.specs.Horizon.{one, total_below, sum_over, runs, IsRunInRange}

-- ---- histories

-- What has happened so far: the end state and the observation of each step, the first step first.
abbrev pub History : Type 0
History = List (ℕ × ℕ)

-- The histories of k steps are the runs of k steps: every list of k pairs of an end state and an observation, once (the law
-- `one_list_of_runs`). `IsRunInRange` says that each end state and each observation is one of the model's.

-- the state where a history ends that began at s
abbrev pub end_state : ℕ → History → ℕ
end_state s [] = s
end_state s (p ∷ history) = end_state p.0 history

-- ---- policies

-- A policy chooses the next action by the whole history. It is not given the actions so far, which it chose itself, nor the start
-- state: each promise is made from each start state, and so holds of a policy that knows it.
abbrev pub Policy : Type 0
Policy = History → ℕ

-- after each history of the model it takes an action of the model
abbrev pub IsPolicyOf : CellTable → Policy → Type 0
IsPolicyOf t policy = (history : History) → IsRunInRange t history → policy history < t.actions

-- A policy of a POMDP chooses by the observations alone, the first one first. In an MDP the end state is observed.
abbrev pub ObservationPolicy : Type 0
ObservationPolicy = List ℕ → ℕ

-- the same as a policy of histories, which makes no use of the end states
abbrev pub as_policy : ObservationPolicy → Policy
as_policy policy = λ history. policy (map (λ p. p.1) history)

-- how a policy continues after a first step with this end state and observation
abbrev pub after : Policy → ℕ × ℕ → Policy
after policy p = λ history. policy (p ∷ history)

-- ---- one step

-- the weight of a step from state s by action a to state e with observation z
abbrev pub step_weight : CellTable → ℕ → ℕ → ℕ → ℕ → ℕ
step_weight t a s e z = t.t a s e * t.o a e z

-- the sum of the weights of all steps by an action from a state
abbrev pub step_scale : CellTable → ℕ
step_scale t = t.t_scale * t.o_scale

-- ---- k steps

-- the product of the weights of a history's steps, from state s
abbrev pub history_weight : CellTable → Policy → ℕ → History → ℕ
history_weight t policy s [] = 1
history_weight t policy s (p ∷ history) = step_weight t (policy []) s p.0 p.1 * history_weight t (after policy p) p.0 history

-- the rewards of its steps
abbrev pub history_rewards : CellTable → Policy → ℕ → History → List ℤ
history_rewards t policy s [] = []
history_rewards t policy s (p ∷ history) = t.r (policy []) s p.0 p.1 ∷ history_rewards t (after policy p) p.0 history

-- The discounted rewards of a history of k steps, on the scale one ^ k: the reward of step i weighs
-- discount ^ i * one ^ (k - i).
abbrev pub discounted_rewards : CellTable → Policy → ℕ → ℕ → History → ℤ
discounted_rewards t policy k s history = total_below (λ i. pos (t.discount ^ i * one ^ (k - i)) *ℤ get_or (history_rewards t policy s history) i (pos 0)) k

-- with the discounted value `end` of the history added
abbrev pub discounted_total : CellTable → (History → ℤ) → Policy → ℕ → ℕ → History → ℤ
discounted_total t end policy k s history = discounted_rewards t policy k s history +ℤ pos (t.discount ^ k) *ℤ end history

-- the sum of the weights of the histories of k steps
abbrev pub total_weight : CellTable → Policy → ℕ → ℕ → ℤ
total_weight t policy k s = sum_over (λ history. pos (history_weight t policy s history)) (runs t k)

-- The discounted rewards of k steps that are expected from s, in millionths, on the scale step_scale ^ k * one ^ k.
abbrev pub expected_rewards : CellTable → Policy → ℕ → ℕ → ℤ
expected_rewards t policy k s = sum_over (λ history. pos (history_weight t policy s history) *ℤ discounted_rewards t policy k s history) (runs t k)

-- the same with the discounted value `end` of the history added
abbrev pub expected_total : CellTable → (History → ℤ) → Policy → ℕ → ℕ → ℤ
expected_total t end policy k s = sum_over (λ history. pos (history_weight t policy s history) *ℤ discounted_total t end policy k s history) (runs t k)
