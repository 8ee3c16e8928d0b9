-- Policies that see the start state too: the bounds from the start, and that no smaller number bounds them.
use Rattle.std.proofs.Common.{◌≡◌, ℕ, ◌<◌, ℤ, pos, ◌*ℤ◌, ◌≤ℤ◌, [], ap, arith}
use Rattle.polcert_optimum.proofs.Common.{pow-zero, Meaning, HasLimitedNumbers, states_of, IsProper, table_of}
use Rattle.polcert_optimum.proofs.Common.{CellTable, PolicyVectors, value_of, controller_of, one, History, end_state, Policy, as_policy}
use Rattle.polcert_optimum.proofs.Common.{AreInformed, IsBounded}
use Rattle.polcert_optimum.proofs.Common.{AreAtMostFromStart}
use Rattle.polcert_cells.specs.Meaning.{actions_of}
use Rattle.polcert_policy.specs.Graphs.{PolicyGraph, IsProperGraph, nodes}
use Rattle.polcert_check.specs.Horizon.{Fits}
use Rattle.polcert_check.specs.Shortfall.{Passes}
use Rattle.polcert_check.specs.StartWorth.{IsStartWorth}
use Rattle.polcert_check.proofs.Sums.Ring.{mul_le, ≤ℤ_trans, ≤ℤ_from_eq}
use Rattle.polcert_check.proofs.Sums.SumLaws.{sum_below_le, sum_below_same}
use Rattle.polcert_check.proofs.Mirrors.Interval.{some_bound}
use Rattle.polcert_optimum.specs.Seen.{SeenPolicy, IsSeenPolicyOf, IsSeenAtMostFromStart, BoundEverySeenPolicyFromStart}
use Rattle.polcert_optimum.specs.Seen.{BoundEverySeenMixtureFromStart, SeenEarnsAtMost, EncloseSeenOptimum, IsSeenStartMost}
use Rattle.polcert_optimum.proofs.Bounded.{end_state_in_range}
use Rattle.polcert_optimum.proofs.Steps.{expected_total_zero}
use Rattle.polcert_optimum.proofs.EveryPolicy.{mixture_le}
use Rattle.polcert_optimum.proofs.Greatest.{greatest_le, greatest_reached}
use Rattle.polcert_optimum.proofs.Informed.{every_observation_policy}
use Rattle.polcert_optimum.proofs.Start.{from_each}
use Rattle.polcert_optimum.proofs.Vanishing.{at_least}
use Rattle.polcert_optimum.proofs.Optimum.{encloses}
use Rattle.polcert_optimum.proofs.Earnings.{at_most_if_less}

-- ---- a greater number bounds too
more_le : (x : ℕ) (v w sum : ℤ) → v ≤ℤ w → sum ≤ℤ (pos x *ℤ v) → sum ≤ℤ (pos x *ℤ w)
more_le x v w sum le h = ≤ℤ_trans _ _ _ h (mul_le x v w le)

bounded_more : (t : CellTable) (end : History → ℤ) (v w : ℤ) (policy : Policy) (k s : ℕ) → v ≤ℤ w → IsBounded t end v policy k s
    → IsBounded t end w policy k s
bounded_more t end v w policy k s le h = record {
  weights = h.weights;
  total = more_le _ v w _ le h.total;
  rewards = λ m least. more_le _ v w _ le (h.rewards m least);
}

-- ---- the bound from the start
module _ (m : Meaning) (limits : HasLimitedNumbers m) (vectors : ℕ → ℕ → ℤ) (p : IsProper (table_of m))
    (informed : AreInformed (table_of m) vectors) (most : ℤ) (mean : IsSeenAtMostFromStart m vectors most) where
  pub seen_from_start : BoundEverySeenPolicyFromStart m vectors most
  seen_from_start policy of k =
      from_each m limits _ _
      _ k most
      (λ s sl. bounded_more _ _ _
      _ _ k s
      (greatest_le (λ a. vectors a s) _ _ (of s sl [] tt))
      (every_observation_policy _ vectors p informed (policy s) (of s sl) k s sl))
      mean

  pub seen_mixtures : BoundEverySeenMixtureFromStart m vectors most
  seen_mixtures mixture of k =
      mixture_le _ _ _
      (λ policy is. (seen_from_start policy is k).total) _ of

  pub seen_earns_at_most : m.preamble.discount < one → (policy : SeenPolicy) → IsSeenPolicyOf m policy
      → SeenEarnsAtMost m (λ s. as_policy (policy s)) most
  seen_earns_at_most less policy of =
      let (b, within) = some_bound vectors _ _ in
      at_most_if_less m _ b most less
      (λ k. (seen_from_start policy of k).rewards _
      (λ s history sl f. at_least _ b (within _ _ (of s sl _ f) (end_state_in_range (table_of m) _ s sl f))))

module _ (m : Meaning) where
  -- ---- it bounds what the means of the vectors bound
  pub each_at_most : (vectors : ℕ → ℕ → ℤ) (most : ℤ) → IsSeenAtMostFromStart m vectors most → AreAtMostFromStart m vectors most
  each_at_most vectors most mean a al =
      ≤ℤ_trans _ _ _ (sum_below_le _ _ (states_of m) (λ s sl. mul_le _ _ _
      (greatest_le (λ b. vectors b s) _ a al))) mean

  -- ---- only then: the policy that takes the best action of each start state, for no step
  pub seen_only_then : HasLimitedNumbers m → (vectors : ℕ → ℕ → ℤ) (most : ℤ) → BoundEverySeenPolicyFromStart m vectors most
      → IsSeenAtMostFromStart m vectors most
  seen_only_then limits vectors most bound =
      let best = λ (s : ℕ). greatest_reached (λ a. vectors a s) _ (omega arith) in
      let policy : SeenPolicy = λ s observations. (best s).0 in
      let none = (bound policy (λ s sl history f. (best s).1) 0).total in
      ≤ℤ_trans _ _ _ (≤ℤ_from_eq _ _ (sum_below_same _ _ (states_of m)
      (λ s sl. cc (
        (best s).2,
        expected_total_zero (table_of m) (λ history. vectors (as_policy (policy s) history) (end_state s history))
            (as_policy (policy s)) s,
      )))) (≤ℤ_trans _ _ _ none
      (≤ℤ_from_eq _ _ (ap (λ (x : ℕ). pos x *ℤ most) (grind (arith, pow-zero)))))

  -- ---- the optimum between both
  pub encloses_seen : HasLimitedNumbers m → (g : PolicyGraph) (v : PolicyVectors) → IsProper (table_of m) → IsProperGraph g
      → Fits (table_of m) g v → Passes (controller_of (table_of m) g v) → m.preamble.discount < one
      → (n : ℕ) → n < nodes g → (worth : ℤ) → IsStartWorth m v n worth → (vectors : ℕ → ℕ → ℤ) → AreInformed (table_of m) vectors
      → (most : ℤ)
      → IsSeenAtMostFromStart m vectors most → EncloseSeenOptimum m worth most
  encloses_seen limits g v proper known fits passes less n nl worth is vectors informed most mean =
      let enclosed = encloses m limits g v proper known fits passes less n nl worth is vectors informed most
      (each_at_most _ most mean) in
      record {
        policy = λ s. enclosed.policy;
        is_policy = λ s sl. enclosed.is_policy;
        at_least = enclosed.at_least;
        at_most = seen_earns_at_most m limits vectors proper informed most mean less;
        ordered = enclosed.ordered;
      }

  -- ---- the number
  pub number_is : (v : PolicyVectors) (most : ℤ) → v.nodes ≡ actions_of m → IsSeenStartMost m v most
      → IsSeenAtMostFromStart m (value_of v) most
  number_is v most same is = rw (← same) is.0
