-- Policies that see the start state: in an MDP the state is seen before the first action too.
--
-- Source: Puterman, Markov Decision Processes (1994), section 2.1: a decision depends on the state that the process is in, the first
-- one on the start state. Here such a policy is a family: for each start state a policy of the observations that follow, which in an MDP
-- are the end states.
use Rattle.std.specs.Prelude.{ℕ, ◌*◌, ◌<◌, ◌≤◌, ℤ, pos, ◌+ℤ◌, ◌*ℤ◌, ◌≤ℤ◌, List, Bool, true, false}
use Rattle.std.specs.List.{AllByRecursion}
use Rattle.polcert_cells.specs.Meaning.{Meaning, states_of, actions_of, start_total}
use Rattle.polcert_cells.specs.Preamble.{is_mdp}
use Rattle.polcert_cells.specs.Tables.{table_of}
use Rattle.polcert_policy.specs.Vectors.{PolicyVectors, value_of}
use Rattle.polcert_check.specs.StartWorth.{IsCeilQuotient}
use Rattle.polcert_check.specs.StartMost.{IsStartMost}
use Rattle.polcert_optimum.specs.Policy.{end_state, Policy, ObservationPolicy, as_policy, IsPolicyOf, expected_rewards, expected_total}
use Rattle.polcert_optimum.specs.Bound.{mixture_weight, mixture_sum}
use Rattle.polcert_optimum.specs.Informed.{greatest_below}
use Rattle.polcert_optimum.specs.Start.{sum_over_start, start_scale, IsAtMostFromStart, IsBoundedFromStart, BoundEveryObservationPolicyFromStart, BoundEveryObservationMixtureFromStart}

-- for each start state a policy of the observations that follow
abbrev pub SeenPolicy : Type 0
SeenPolicy = ℕ → ObservationPolicy

-- from each start state it is a policy of the model
abbrev pub IsSeenPolicyOf : Meaning → SeenPolicy → Type 0
IsSeenPolicyOf m policy = (s : ℕ) → s < states_of m → IsPolicyOf (table_of m) (as_policy (policy s))

-- ---- the bound

-- what the best of the vectors of the actions is worth at state s
abbrev pub best_at : Meaning → (ℕ → ℕ → ℤ) → ℕ → ℤ
best_at m vectors s = greatest_below (λ a. vectors a s) (actions_of m)

-- the mean over the start of what the best vector of each state is worth there is at most `most`
abbrev pub IsSeenAtMostFromStart : Meaning → (ℕ → ℕ → ℤ) → ℤ → Type 0
IsSeenAtMostFromStart m vectors most = IsAtMostFromStart m (best_at m vectors) most

-- Every policy that sees the start state, and then the observations alone, earns at most `most` from the start.
abbrev pub BoundEverySeenPolicyFromStart : Meaning → (ℕ → ℕ → ℤ) → ℤ → Type 0
BoundEverySeenPolicyFromStart m vectors most = (policy : SeenPolicy) → IsSeenPolicyOf m policy → (k : ℕ)
    → IsBoundedFromStart m (λ s history. vectors (as_policy (policy s) history) (end_state s history)) (λ s. as_policy (policy s)) k most

-- No mixture of such policies earns more.
abbrev pub BoundEverySeenMixtureFromStart : Meaning → (ℕ → ℕ → ℤ) → ℤ → Type 0
BoundEverySeenMixtureFromStart m vectors most = (mixture : List (ℕ × SeenPolicy)) → AllByRecursion (λ p. IsSeenPolicyOf m p.1) mixture → (k : ℕ)
    → mixture_sum (λ policy. sum_over_start m (λ s. expected_total (table_of m) (λ history. vectors (as_policy (policy s) history) (end_state s history)) (as_policy (policy s)) k s)) mixture
    ≤ℤ (mixture_weight mixture *ℤ (pos (start_scale m k) *ℤ most))

-- ---- in the long run

-- the discounted rewards of k steps that are expected from the start, on `start_scale` m k
abbrev pub seen_rewards : Meaning → (ℕ → Policy) → ℕ → ℤ
seen_rewards m policy k = sum_over_start m (λ s. expected_rewards (table_of m) (policy s) k s)

-- as `EarnsAtLeast` and `EarnsAtMost` of one policy for all start states
abbrev pub SeenEarnsAtLeast : Meaning → (ℕ → Policy) → ℤ → Type 0
SeenEarnsAtLeast m policy low = (d : ℕ) → 0 < d → (first : ℕ) × ((k : ℕ) → first ≤ k
    → (pos (d * start_scale m k) *ℤ low) ≤ℤ (pos d *ℤ seen_rewards m policy k +ℤ pos (start_scale m k)))

abbrev pub SeenEarnsAtMost : Meaning → (ℕ → Policy) → ℤ → Type 0
SeenEarnsAtMost m policy high = (d : ℕ) → 0 < d → (first : ℕ) × ((k : ℕ) → first ≤ k
    → (pos d *ℤ seen_rewards m policy k) ≤ℤ (pos (d * start_scale m k) *ℤ high +ℤ pos (start_scale m k)))

-- The optimum from the start, over the policies that see the start state and the observations, is at least `low` and at most `high`.
pub record EncloseSeenOptimum (m : Meaning) (low high : ℤ) : Type 0 where
  pub policy : SeenPolicy
  pub is_policy : IsSeenPolicyOf m policy
  pub at_least : SeenEarnsAtLeast m (λ s. as_policy (policy s)) low
  pub at_most : (other : SeenPolicy) → IsSeenPolicyOf m other → SeenEarnsAtMost m (λ s. as_policy (other s)) high
  pub ordered : low ≤ℤ high

-- ---- the number on the line of a yes

-- the sum over the states of their share in the start times the greatest of the vectors' values there
abbrev pub seen_sum : Meaning → PolicyVectors → ℤ
seen_sum m v = sum_over_start m (λ s. greatest_below (λ n. value_of v n s) v.nodes)

-- that sum over the total of the shares, rounded up
abbrev pub IsSeenStartMost : Meaning → PolicyVectors → ℤ → Type 0
IsSeenStartMost m v most = IsCeilQuotient (seen_sum m v) (start_total m) most

-- in an MDP (true) that number, and else what no vector is worth more than in the mean over the start
abbrev pub IsMostOf : Bool → Meaning → PolicyVectors → ℤ → Type 0
IsMostOf true m v most = IsSeenStartMost m v most
IsMostOf false m v most = IsStartMost m v most

abbrev pub IsBoundStartMost : Meaning → PolicyVectors → ℤ → Type 0
IsBoundStartMost m v most = IsMostOf (is_mdp m.preamble) m v most

-- and what it is promised to bound: in an MDP (true) also the policies that see the start state
abbrev pub BoundPoliciesOf : Bool → Meaning → (ℕ → ℕ → ℤ) → ℤ → Type 0
BoundPoliciesOf true m vectors most = BoundEverySeenPolicyFromStart m vectors most
BoundPoliciesOf false m vectors most = BoundEveryObservationPolicyFromStart m vectors most

abbrev pub BoundEveryPolicyOfModel : Meaning → (ℕ → ℕ → ℤ) → ℤ → Type 0
BoundEveryPolicyOfModel m vectors most = BoundPoliciesOf (is_mdp m.preamble) m vectors most

-- as do the mixtures of such policies
abbrev pub BoundMixturesOf : Bool → Meaning → (ℕ → ℕ → ℤ) → ℤ → Type 0
BoundMixturesOf true m vectors most = BoundEverySeenMixtureFromStart m vectors most
BoundMixturesOf false m vectors most = BoundEveryObservationMixtureFromStart m vectors most

abbrev pub BoundEveryMixtureOfModel : Meaning → (ℕ → ℕ → ℤ) → ℤ → Type 0
BoundEveryMixtureOfModel m vectors most = BoundMixturesOf (is_mdp m.preamble) m vectors most
