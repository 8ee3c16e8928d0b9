-- What a policy that follows vectors by the belief earns from a model's start.
use Rattle.std.specs.Prelude.{ℕ, ◌+◌, ◌-◌, ◌*◌, ◌^◌, ◌<◌, ◌≤◌, ℤ, pos, ◌+ℤ◌, ◌*ℤ◌, ◌≤ℤ◌, List}
use Rattle.polcert_cells.specs.Meaning.{Meaning, start_total}
use Rattle.polcert_cells.specs.Tables.{table_of}
use Rattle.polcert_check.specs.Horizon.{Controller, one, AtMost}
use Rattle.polcert_optimum.specs.Policy.{ObservationPolicy, as_policy, IsPolicyOf, step_scale, expected_total}
use Rattle.polcert_optimum.specs.Bound.{mixture_weight, mixture_sum}
use Rattle.polcert_optimum.specs.Start.{sum_over_start, start_scale}
use Rattle.polcert_optimum.specs.Optimum.{start_rewards}
use Rattle.polcert_belief.specs.Following.{Selector, policy_of, value_at_end}
use Rattle.polcert_belief.specs.Tolerance.{discounts}

-- From the start the policy earns at least `worth` in k steps, with the discounted value of the vector that is picked at the end. If no
-- value is above `high`, the rewards alone are at least that less discount ^ k times `high`.
pub record EarnsFromStart (m : Meaning) (c : Controller) (policy : ObservationPolicy) (selector : Selector) (k : ℕ) (worth : ℤ) : Type 0 where
  pub is_policy : IsPolicyOf (table_of m) (as_policy policy)
  pub total : (pos (start_scale m k) *ℤ worth) ≤ℤ sum_over_start m (λ s. expected_total (table_of m) (value_at_end c selector s) (as_policy policy) k s)
  pub rewards : (high : ℤ) → AtMost c high → (pos (start_scale m k) *ℤ worth)
      ≤ℤ (start_rewards m (as_policy policy) k +ℤ pos (start_total m * (m.preamble.discount ^ k * step_scale (table_of m) ^ k)) *ℤ high)

-- ---- within a tolerance

-- 1 + discount + .. + discount ^ k, on the scale one ^ k
abbrev pub all_discounts : ℕ → ℕ → ℕ
all_discounts discount k = one ^ k + discounts discount k

-- what picks within a tolerance of one millionth cost from the start in k steps
abbrev pub start_loss : Meaning → ℕ → ℕ
start_loss m k = start_total m * step_scale (table_of m) ^ k * all_discounts m.preamble.discount k

-- It earns at least `worth`, less `by` / `d` millionths for each pick, discounted. Both sides are multiplied by d.
pub record EarnsFromStartWithin (by d : ℕ) (m : Meaning) (c : Controller) (policy : ObservationPolicy) (selector : Selector) (k : ℕ) (worth : ℤ) : Type 0 where
  pub is_policy : IsPolicyOf (table_of m) (as_policy policy)
  pub total : (pos (d * start_scale m k) *ℤ worth)
      ≤ℤ (pos d *ℤ sum_over_start m (λ s. expected_total (table_of m) (value_at_end c selector s) (as_policy policy) k s) +ℤ pos (by * start_loss m k))
  pub rewards : (high : ℤ) → AtMost c high → (pos (d * start_scale m k) *ℤ worth)
      ≤ℤ (pos d *ℤ (start_rewards m (as_policy policy) k +ℤ pos (start_total m * (m.preamble.discount ^ k * step_scale (table_of m) ^ k)) *ℤ high) +ℤ pos (by * start_loss m k))

-- A planner that draws is a mixture of selectors, each with its weight. This is what it earns in the mean over the draws.
abbrev pub MixtureEarnsWithin : ℕ → ℕ → Meaning → Controller → List (ℕ × Selector) → ℕ → ℤ → Type 0
MixtureEarnsWithin by d m c mixture k worth = (mixture_weight mixture *ℤ (pos (d * start_scale m k) *ℤ worth))
    ≤ℤ (pos d *ℤ mixture_sum (λ selector. sum_over_start m (λ s. expected_total (table_of m) (value_at_end c selector s) (as_policy (policy_of c selector)) k s)) mixture +ℤ mixture_weight mixture *ℤ pos (by * start_loss m k))

-- In the long run it earns at least `low` in that mean: for each tolerance of 1 / d millionths, from some number of steps on.
abbrev pub MixtureEarnsAtLeast : Meaning → Controller → List (ℕ × Selector) → ℤ → Type 0
MixtureEarnsAtLeast m c mixture low = (d : ℕ) → 0 < d → (first : ℕ) × ((k : ℕ) → first ≤ k → (mixture_weight mixture *ℤ (pos (d * start_scale m k) *ℤ low))
    ≤ℤ (pos d *ℤ mixture_sum (λ selector. start_rewards m (as_policy (policy_of c selector)) k) mixture +ℤ mixture_weight mixture *ℤ pos (start_scale m k)))

-- `low` is at most `worth` less `by` / `d` millionths for each step, discounted: (1 - discount) * (worth - low) is at least `by` / `d`.
abbrev pub IsBelowWithin : ℕ → ℕ → ℕ → ℤ → ℤ → Type 0
IsBelowWithin by d discount worth low = (pos (d * (one - discount)) *ℤ low +ℤ pos (by * one)) ≤ℤ (pos (d * (one - discount)) *ℤ worth)
