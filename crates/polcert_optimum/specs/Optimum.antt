-- What a policy earns from a model's start in the long run, and the optimum over all policies.
--
-- Source: the value of a policy is the limit of its expected discounted rewards over k steps, and the optimal value is the supremum
-- over the policies (Puterman, Markov Decision Processes, 1994, section 5.1). Where the discount is below 1 the limit exists.
use Rattle.std.specs.Prelude.{ℕ, ◌*◌, ◌<◌, ◌≤◌, ℤ, pos, ◌+ℤ◌, ◌*ℤ◌, ◌≤ℤ◌}
use Rattle.polcert_cells.specs.Meaning.{Meaning}
use Rattle.polcert_cells.specs.Tables.{table_of}
use Rattle.polcert_optimum.specs.Policy.{Policy, ObservationPolicy, as_policy, IsPolicyOf, expected_rewards}
use Rattle.polcert_optimum.specs.Start.{sum_over_start, start_scale}

-- the discounted rewards of k steps that are expected from the start, on `start_scale` m k
abbrev pub start_rewards : Meaning → Policy → ℕ → ℤ
start_rewards m policy k = sum_over_start m (λ s. expected_rewards (table_of m) policy k s)

-- In the long run the policy earns at least `low` from the start: for each tolerance of 1 / d millionths there is a number of steps
-- from which on its expected discounted rewards are at least `low` less the tolerance.
abbrev pub EarnsAtLeast : Meaning → Policy → ℤ → Type 0
EarnsAtLeast m policy low = (d : ℕ) → 0 < d → (first : ℕ) × ((k : ℕ) → first ≤ k
    → (pos (d * start_scale m k) *ℤ low) ≤ℤ (pos d *ℤ start_rewards m policy k +ℤ pos (start_scale m k)))

-- in the long run it earns at most `high`
abbrev pub EarnsAtMost : Meaning → Policy → ℤ → Type 0
EarnsAtMost m policy high = (d : ℕ) → 0 < d → (first : ℕ) × ((k : ℕ) → first ≤ k
    → (pos d *ℤ start_rewards m policy k) ≤ℤ (pos (d * start_scale m k) *ℤ high +ℤ pos (start_scale m k)))

-- The optimum from the start, over the policies that see the observations alone, is at least `low` and at most `high`: some policy
-- earns at least `low` in the long run, and every policy at most `high`.
pub record EncloseOptimum (m : Meaning) (low high : ℤ) : Type 0 where
  pub policy : ObservationPolicy
  pub is_policy : IsPolicyOf (table_of m) (as_policy policy)
  pub at_least : EarnsAtLeast m (as_policy policy) low
  pub at_most : (other : ObservationPolicy) → IsPolicyOf (table_of m) (as_policy other) → EarnsAtMost m (as_policy other) high
  pub ordered : low ≤ℤ high
