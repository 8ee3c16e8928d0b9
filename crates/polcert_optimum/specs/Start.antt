-- The bounds from a model's start.
use Rattle.std.specs.Prelude.{ℕ, ◌*◌, ◌^◌, ◌<◌, ℤ, pos, ◌+ℤ◌, ◌*ℤ◌, ◌≤ℤ◌, List}
use Rattle.std.specs.List.{AllByRecursion}
use Rattle.polcert_cells.specs.Meaning.{Meaning, states_of, actions_of, start_weight, start_total}
use Rattle.polcert_cells.specs.Tables.{table_of}
use Rattle.polcert_check.specs.Horizon.{one, total_below, IsRunInRange}
use Rattle.polcert_optimum.specs.Policy.{History, end_state, Policy, ObservationPolicy, as_policy, IsPolicyOf, step_scale, expected_rewards, expected_total}
use Rattle.polcert_optimum.specs.Bound.{mixture_weight, mixture_sum}

-- the sum over the states of their weight in the start times f of the state
abbrev pub sum_over_start : Meaning → (ℕ → ℤ) → ℤ
sum_over_start m f = total_below (λ s. pos (start_weight m s) *ℤ f s) (states_of m)

-- the scale of what is expected from the start in k steps
abbrev pub start_scale : Meaning → ℕ → ℕ
start_scale m k = start_total m * (step_scale (table_of m) ^ k * one ^ k)

-- the mean of f over the start is at most `most`
abbrev pub IsAtMostFromStart : Meaning → (ℕ → ℤ) → ℤ → Type 0
IsAtMostFromStart m f most = sum_over_start m f ≤ℤ (pos (start_total m) *ℤ most)

-- no vector is worth more than `most` at the start
abbrev pub AreAtMostFromStart : Meaning → (ℕ → ℕ → ℤ) → ℤ → Type 0
AreAtMostFromStart m vectors most = (a : ℕ) → a < actions_of m → IsAtMostFromStart m (vectors a) most

-- From the start the policy, which may be another one for each start state, earns at most `most` in k steps, where a history that
-- began at s ends at the value `end` s: with the discounted end values, and, if no end value is below `low`, with the rewards
-- alone at most that less discount ^ k times `low`.
pub record IsBoundedFromStart (m : Meaning) (end : ℕ → History → ℤ) (policy : ℕ → Policy) (k : ℕ) (most : ℤ) : Type 0 where
  pub total : sum_over_start m (λ s. expected_total (table_of m) (end s) (policy s) k s) ≤ℤ (pos (start_scale m k) *ℤ most)
  pub rewards : (low : ℤ) → ((s : ℕ) (history : History) → s < states_of m → IsRunInRange (table_of m) history → low ≤ℤ end s history)
      → (sum_over_start m (λ s. expected_rewards (table_of m) (policy s) k s) +ℤ pos (start_total m * (m.preamble.discount ^ k * step_scale (table_of m) ^ k)) *ℤ low) ≤ℤ (pos (start_scale m k) *ℤ most)

-- Every policy earns at most `most` from the start, also one that knows the start state.
abbrev pub BoundsEveryPolicyFromStart : Meaning → (ℕ → ℤ) → ℤ → Type 0
BoundsEveryPolicyFromStart m value most = (policy : ℕ → Policy) → ((s : ℕ) → IsPolicyOf (table_of m) (policy s)) → (k : ℕ)
    → IsBoundedFromStart m (λ s history. value (end_state s history)) policy k most

-- Every policy that sees the observations alone earns at most `most` from the start.
abbrev pub BoundEveryObservationPolicyFromStart : Meaning → (ℕ → ℕ → ℤ) → ℤ → Type 0
BoundEveryObservationPolicyFromStart m vectors most = (policy : ObservationPolicy) → IsPolicyOf (table_of m) (as_policy policy) → (k : ℕ)
    → IsBoundedFromStart m (λ s history. vectors (as_policy policy history) (end_state s history)) (λ s. as_policy policy) k most

-- No mixture of such policies earns more.
abbrev pub BoundEveryObservationMixtureFromStart : Meaning → (ℕ → ℕ → ℤ) → ℤ → Type 0
BoundEveryObservationMixtureFromStart m vectors most = (mixture : List (ℕ × ObservationPolicy)) → AllByRecursion (λ p. IsPolicyOf (table_of m) (as_policy p.1)) mixture → (k : ℕ)
    → mixture_sum (λ policy. sum_over_start m (λ s. expected_total (table_of m) (λ history. vectors (as_policy policy history) (end_state s history)) (as_policy policy) k s)) mixture
    ≤ℤ (mixture_weight mixture *ℤ (pos (start_scale m k) *ℤ most))
