-- A bound on every policy: one value for each state.
--
-- Source: Puterman, Markov Decision Processes (1994), theorem 6.2.2: a function v of the states with v >= L v, where L is the
-- Bellman backup, is at least the value of every policy that depends on the history. A policy of a POMDP makes use of less of the
-- history, so that v bounds it too. Both sides of each inequality are multiplied by the scales.
use Rattle.std.specs.Prelude.{◌≡◌, ℕ, ◌*◌, ◌^◌, ◌<◌, ℤ, pos, ◌+ℤ◌, ◌*ℤ◌, ◌≤ℤ◌, List}
use Rattle.std.specs.List.{AllByRecursion}
use Rattle.polcert_cells.specs.Tables.{CellTable}
use Rattle.polcert_check.specs.Horizon.{one, total_below, sum_over, IsRunInRange}
use Rattle.polcert_optimum.specs.Policy.{History, end_state, Policy, IsPolicyOf, step_weight, step_scale, total_weight, expected_rewards, expected_total}

-- The Bellman backup of action a at state s, where `next` e z is the value after end state e and observation z: the expected reward
-- and discounted value, on the scale step_scale * one.
abbrev pub backup : CellTable → (ℕ → ℕ → ℤ) → ℕ → ℕ → ℤ
backup t next a s =
    total_below (λ e. total_below (λ z.
    pos (step_weight t a s e z) *ℤ (pos one *ℤ t.r a s e z +ℤ pos t.discount *ℤ next e z))
    t.observations) t.states

-- The value of each state is at least its Bellman backup, whatever the action.
abbrev pub DominatesBackup : CellTable → (ℕ → ℤ) → Type 0
DominatesBackup t value = (a s : ℕ) → a < t.actions → s < t.states → backup t (λ e z. value e) a s ≤ℤ (pos (step_scale t * one) *ℤ value s)

-- ---- what a bound says of a policy

-- The policy earns at most `value` from s in k steps, where a history ends at the value `end`: the weights of the runs sum to
-- their scale; rewards and discounted end values are expected to be at most `value`; and if no end value is below m, the rewards
-- alone are expected to be at most `value` less discount ^ k times m.
pub record IsBounded (t : CellTable) (end : History → ℤ) (value : ℤ) (policy : Policy) (k s : ℕ) : Type 0 where
  pub weights : total_weight t policy k s ≡ pos (step_scale t ^ k)
  pub total : expected_total t end policy k s ≤ℤ (pos (step_scale t ^ k * one ^ k) *ℤ value)
  pub rewards : (m : ℤ) → ((history : History) → IsRunInRange t history → m ≤ℤ end history) → (expected_rewards t policy k s +ℤ pos (t.discount ^ k * step_scale t ^ k) *ℤ m) ≤ℤ (pos (step_scale t ^ k * one ^ k) *ℤ value)

-- Every policy earns at most the value of the state where it starts, for every number of steps.
abbrev pub BoundsEveryPolicy : CellTable → (ℕ → ℤ) → Type 0
BoundsEveryPolicy t value = (policy : Policy) → IsPolicyOf t policy → (k s : ℕ) → s < t.states → IsBounded t (λ history. value (end_state s history)) (value s) policy k s

-- ---- randomised policies

-- A mixture draws one of its policies, each with its weight: the sum of the weights, and the weighted sum of f over the policies.
abbrev pub mixture_weight : {P : Type 0} → List (ℕ × P) → ℤ
mixture_weight mixture = sum_over (λ m. pos m.0) mixture

abbrev pub mixture_sum : {P : Type 0} → (P → ℤ) → List (ℕ × P) → ℤ
mixture_sum f mixture = sum_over (λ m. pos m.0 *ℤ f m.1) mixture

-- No mixture of policies earns more.
abbrev pub BoundsEveryMixture : CellTable → (ℕ → ℤ) → Type 0
BoundsEveryMixture t value = (mixture : List (ℕ × Policy)) → AllByRecursion (λ m. IsPolicyOf t m.1) mixture → (k s : ℕ) → s < t.states
    → mixture_sum (λ policy. expected_total t (λ history. value (end_state s history)) policy k s) mixture ≤ℤ (mixture_weight mixture *ℤ (pos (step_scale t ^ k * one ^ k) *ℤ value s))
