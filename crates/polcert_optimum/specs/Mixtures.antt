-- Mixtures of policies, drawn before the first step: their rewards alone, and what they earn in the long run.
use Rattle.std.specs.Prelude.{ℕ, ◌*◌, ◌^◌, ◌<◌, ◌≤◌, ℤ, pos, ◌+ℤ◌, ◌*ℤ◌, ◌≤ℤ◌, Bool, true, false, List}
use Rattle.std.specs.List.{AllByRecursion}
use Rattle.polcert_cells.specs.Meaning.{Meaning, states_of, actions_of, start_total}
use Rattle.polcert_cells.specs.Preamble.{is_mdp}
use Rattle.polcert_cells.specs.Tables.{table_of}
use Rattle.polcert_check.specs.Horizon.{one}
use Rattle.polcert_optimum.specs.Policy.{Policy, ObservationPolicy, as_policy, IsPolicyOf, step_scale}
use Rattle.polcert_optimum.specs.Bound.{mixture_weight, mixture_sum}
use Rattle.polcert_optimum.specs.Start.{start_scale}
use Rattle.polcert_optimum.specs.Seen.{SeenPolicy, IsSeenPolicyOf, seen_rewards}

-- The mean of the rewards of k steps alone, weighted with the mixture, is at most `most` less discount ^ k times any number that no value
-- is below; and in the long run at most `most`: for each tolerance of 1 / d millionths from some number of steps on.
pub record MixtureEarnsAtMost {P : Type 0} (m : Meaning) (vectors : ℕ → ℕ → ℤ) (from : P → ℕ → Policy) (mixture : List (ℕ × P)) (most : ℤ) : Type 0 where
  pub rewards : (k : ℕ) (low : ℤ) → ((a e : ℕ) → a < actions_of m → e < states_of m → low ≤ℤ vectors a e)
      → (mixture_sum (λ p. seen_rewards m (from p) k) mixture +ℤ mixture_weight mixture *ℤ (pos (start_total m * (m.preamble.discount ^ k * step_scale (table_of m) ^ k)) *ℤ low))
      ≤ℤ (mixture_weight mixture *ℤ (pos (start_scale m k) *ℤ most))
  pub long_run : m.preamble.discount < one → (d : ℕ) → 0 < d → (first : ℕ) × ((k : ℕ) → first ≤ k
      → (pos d *ℤ mixture_sum (λ p. seen_rewards m (from p) k) mixture) ≤ℤ (mixture_weight mixture *ℤ (pos (d * start_scale m k) *ℤ most +ℤ pos (start_scale m k))))

-- every mixture of policies that see the observations alone; in an MDP (true) also the start state
abbrev pub MixturesEarnAtMost : Bool → Meaning → (ℕ → ℕ → ℤ) → ℤ → Type 0
MixturesEarnAtMost true m vectors most = (mixture : List (ℕ × SeenPolicy)) → AllByRecursion (λ p. IsSeenPolicyOf m p.1) mixture → MixtureEarnsAtMost m vectors (λ policy s. as_policy (policy s)) mixture most
MixturesEarnAtMost false m vectors most = (mixture : List (ℕ × ObservationPolicy)) → AllByRecursion (λ p. IsPolicyOf (table_of m) (as_policy p.1)) mixture → MixtureEarnsAtMost m vectors (λ policy s. as_policy policy) mixture most

abbrev pub MixturesOfModelEarnAtMost : Meaning → (ℕ → ℕ → ℤ) → ℤ → Type 0
MixturesOfModelEarnAtMost m vectors most = MixturesEarnAtMost (is_mdp m.preamble) m vectors most
