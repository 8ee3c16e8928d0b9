-- The fast informed bound: one vector for each action, a bound on every policy that sees the observations alone.
--
-- Source: Hauskrecht, Value-function approximations for partially observable Markov decision processes, Journal of Artificial
-- Intelligence Research 13 (2000): with r(a, s) the expected reward,
--
--     alpha_a(s) = r(a, s) + discount * sum over z of max over b of sum over e of T(a, s, e) * O(a, e, z) * alpha_b(e)
--
-- Here the left side is to be at least the right one, both on the scale step_scale * one.
use Rattle.std.specs.Prelude.{ℕ, zero, suc, ◌*◌, ◌<◌, ℤ, pos, ◌+ℤ◌, ◌-ℤ◌, ◌*ℤ◌, ◌≤ℤ◌, []}
use Rattle.std.specs.Int.{int_max}
use Rattle.polcert_cells.specs.Tables.{CellTable}
use Rattle.polcert_check.specs.Horizon.{one, total_below}
use Rattle.polcert_optimum.specs.Policy.{end_state, ObservationPolicy, as_policy, IsPolicyOf, step_weight, step_scale}
use Rattle.polcert_optimum.specs.Bound.{backup, IsBounded}

-- the greatest of f 0, f 1, .. f (n - 1)
abbrev pub greatest_below : (ℕ → ℤ) → ℕ → ℤ
greatest_below f zero = pos 0
greatest_below f (suc zero) = f 0
greatest_below f (suc (suc n)) = int_max (greatest_below f (suc n)) (f (suc n))

-- the expected reward of action a at state s
abbrev pub expected_reward : CellTable → ℕ → ℕ → ℤ
expected_reward t a s = total_below (λ e. total_below (λ z. pos (step_weight t a s e z) *ℤ t.r a s e z) t.observations) t.states

-- the expected value of a vector after action a at state s, over the end states where z is observed
abbrev pub expected_value : CellTable → ℕ → ℕ → ℕ → (ℕ → ℤ) → ℤ
expected_value t a s z vector = total_below (λ e. pos (step_weight t a s e z) *ℤ vector e) t.states

-- The informed backup of action a at state s: after each observation the best vector.
abbrev pub informed_backup : CellTable → (ℕ → ℕ → ℤ) → ℕ → ℕ → ℤ
informed_backup t vectors a s = pos one *ℤ expected_reward t a s +ℤ pos t.discount *ℤ total_below (λ z. greatest_below (λ b. expected_value t a s z (vectors b)) t.actions) t.observations

-- By how much the informed backup of action a at state s is above the action's vector there.
abbrev pub excess : CellTable → (ℕ → ℕ → ℤ) → ℕ → ℕ → ℤ
excess t vectors a s = informed_backup t vectors a s -ℤ pos (step_scale t * one) *ℤ vectors a s

-- The informed inequality: the vector of action a is at least its informed backup at state s.
abbrev pub IsInformed : CellTable → (ℕ → ℕ → ℤ) → ℕ → ℕ → Type 0
IsInformed t vectors a s = excess t vectors a s ≤ℤ pos 0

-- at every action and state
abbrev pub AreInformed : CellTable → (ℕ → ℕ → ℤ) → Type 0
AreInformed t vectors = (a s : ℕ) → a < t.actions → s < t.states → IsInformed t vectors a s

-- ---- what the vectors say of a policy

-- Every policy that sees the observations alone earns at most the value of its first action's vector at the state where it starts, for
-- every number of steps; a history ends at the value of the next action's vector.
abbrev pub BoundEveryObservationPolicy : CellTable → (ℕ → ℕ → ℤ) → Type 0
BoundEveryObservationPolicy t vectors = (policy : ObservationPolicy) → IsPolicyOf t (as_policy policy) → (k s : ℕ) → s < t.states
    → IsBounded t (λ history. vectors (as_policy policy history) (end_state s history)) (vectors (policy []) s) (as_policy policy) k s

-- ---- QMDP

-- Source: Littman, Cassandra and Kaelbling, Learning policies for partially observable environments (1995). Each vector is what its
-- action is worth where the state is seen from the next step on: at least its backup with the bound of each state, and no more than
-- that bound.
pub record AreQmdp (t : CellTable) (value : ℕ → ℤ) (vectors : ℕ → ℕ → ℤ) : Type 0 where
  pub backups : (a s : ℕ) → a < t.actions → s < t.states → backup t (λ e z. value e) a s ≤ℤ (pos (step_scale t * one) *ℤ vectors a s)
  pub bounded : (a s : ℕ) → a < t.actions → s < t.states → vectors a s ≤ℤ value s
