-- The headline for whoever runs the vectors: what a yes to three texts says of the policy that picks a best of the vectors at each belief
-- and takes the action of its node, over the very bytes of the texts, as the headline of `polcert_answer` says it of the graph.
use Rattle.std.specs.Prelude.{ℕ, ◌<◌, ℤ, List}
use Rattle.polcert_cells.specs.Meaning.{start_weight}
use Rattle.polcert_check.specs.Horizon.{one}
use Rattle.polcert_check.specs.StartWorth.{IsBestStart, IsStartWorth}
use Rattle.polcert_optimum.specs.Policy.{ObservationPolicy, as_policy}
use Rattle.polcert_optimum.specs.Optimum.{EarnsAtLeast}
use Rattle.polcert_answer.specs.Headline.{Certificate, controller}
use Rattle.polcert_answer.specs.Run.{HasStartPromise}
use Rattle.polcert_belief.specs.Ahead.{LooksAheadWithin}
use Rattle.polcert_belief.specs.Belief.{Belief}
use Rattle.polcert_belief.specs.Following.{EarnsWhatIsPicked, PicksBest, Selector, policy_of}
use Rattle.polcert_belief.specs.Tolerance.{PicksWithin}
use Rattle.polcert_belief.specs.FromStart.{EarnsFromStart, EarnsFromStartWithin, IsBelowWithin}

-- The texts denote a controller. And whatever controller they denote, a policy that picks a best vector at each belief earns at least what
-- its first vector is worth: from every belief, in every number of steps. From the model's start it earns at least the worth of the best
-- node there, which the line of a yes names (`line`): with the value at the end, and if the discount is below 1, in the long run.
pub record IsCertifiedByBelief (model graph vectors : List ℕ) : Type 0 where
  pub certificate : Certificate model graph vectors
  pub beliefs : (c : Certificate model graph vectors) (belief : Belief) (selector : Selector) → PicksBest (controller c) belief selector
      → EarnsWhatIsPicked (controller c) (policy_of (controller c) selector) belief selector
  pub steps : (c : Certificate model graph vectors) (selector : Selector) → PicksBest (controller c) (start_weight c.meaning) selector
      → (n : ℕ) (worth : ℤ) → IsBestStart c.meaning c.values n → IsStartWorth c.meaning c.values n worth
      → (k : ℕ) → EarnsFromStart c.meaning (controller c) (policy_of (controller c) selector) selector k worth
  pub long_run : (c : Certificate model graph vectors) (selector : Selector) → PicksBest (controller c) (start_weight c.meaning) selector → c.meaning.preamble.discount < one
      → (n : ℕ) (worth : ℤ) → IsBestStart c.meaning c.values n → IsStartWorth c.meaning c.values n worth → EarnsAtLeast c.meaning (as_policy (policy_of (controller c) selector)) worth
  pub line : (line : List ℕ) (promise : HasStartPromise line model graph vectors) (c : Certificate model graph vectors) (selector : Selector) → PicksBest (controller c) (start_weight c.meaning) selector
      → (k : ℕ) → EarnsFromStart c.meaning (controller c) (policy_of (controller c) selector) selector k promise.worth

-- What is certified by belief, within a tolerance of `by` / `d` millionths for each pick, and of policies that look one step ahead.
pub record IsCertifiedByBeliefWithin (by d : ℕ) (model graph vectors : List ℕ) : Type 0 where
  pub steps : (c : Certificate model graph vectors) (selector : Selector) → PicksWithin by d (controller c) (start_weight c.meaning) selector
      → (n : ℕ) (worth : ℤ) → IsBestStart c.meaning c.values n → IsStartWorth c.meaning c.values n worth
      → (k : ℕ) → EarnsFromStartWithin by d c.meaning (controller c) (policy_of (controller c) selector) selector k worth
  pub ahead : (c : Certificate model graph vectors) (policy : ObservationPolicy) (selector : Selector) → LooksAheadWithin by d (controller c) policy (start_weight c.meaning) selector
      → (n : ℕ) (worth : ℤ) → IsBestStart c.meaning c.values n → IsStartWorth c.meaning c.values n worth
      → (k : ℕ) → EarnsFromStartWithin by d c.meaning (controller c) policy selector k worth
  pub long_run : 0 < d → (c : Certificate model graph vectors) → c.meaning.preamble.discount < one → (policy : ObservationPolicy) (selector : Selector) (worth low : ℤ)
      → ((k : ℕ) → EarnsFromStartWithin by d c.meaning (controller c) policy selector k worth) → IsBelowWithin by d c.meaning.preamble.discount worth low
      → EarnsAtLeast c.meaning (as_policy policy) low
