-- What a graph's own policy earns from a model's start in the long run, and how much more another policy may earn.
use Rattle.std.specs.Prelude.{ℕ, ◌*◌, ◌^◌, ◌<◌, ◌≤◌, ℤ, pos, ◌+ℤ◌, ◌*ℤ◌, ◌≤ℤ◌, List, [], ◌∷◌, Option, Some, None}
use Rattle.polcert_cells.specs.Meaning.{Meaning, start_total}
use Rattle.polcert_cells.specs.Tables.{table_of}
use Rattle.polcert_policy.specs.Graphs.{PolicyGraph, action_of, next_of}
use Rattle.polcert_optimum.specs.Policy.{Policy, ObservationPolicy, as_policy, IsPolicyOf, step_scale}
use Rattle.polcert_optimum.specs.Start.{start_scale}
use Rattle.polcert_optimum.specs.Optimum.{start_rewards}

-- ---- the graph's own policy

-- the node that is reached from a node by observations, if there is a successor for each of them
abbrev pub node_reached : PolicyGraph → Option ℕ → List ℕ → Option ℕ
node_reached g None observations = None
node_reached g (Some n) [] = Some n
node_reached g (Some n) (z ∷ observations) = node_reached g (next_of g n z) observations

-- the node's action; if there is no node, the first action
abbrev pub action_reached : PolicyGraph → Option ℕ → ℕ
action_reached g None = 0
action_reached g (Some n) = action_of g n

-- the policy that follows the graph from node n: the action of the node that the observations so far have reached
abbrev pub policy_from : PolicyGraph → ℕ → ObservationPolicy
policy_from g n = λ observations. action_reached g (node_reached g (Some n) observations)

-- ---- in k steps

-- From the start the policy's discounted rewards of k steps alone are expected to be at least `low` less discount ^ k times `top`.
abbrev pub AreRewardsAtLeast : Meaning → Policy → ℕ → ℤ → ℤ → Type 0
AreRewardsAtLeast m policy k top low = (pos (start_scale m k) *ℤ low) ≤ℤ (start_rewards m policy k +ℤ pos (start_total m * (m.preamble.discount ^ k * step_scale (table_of m) ^ k)) *ℤ top)

-- at most `high` less discount ^ k times `bottom`
abbrev pub AreRewardsAtMost : Meaning → Policy → ℕ → ℤ → ℤ → Type 0
AreRewardsAtMost m policy k bottom high = (start_rewards m policy k +ℤ pos (start_total m * (m.preamble.discount ^ k * step_scale (table_of m) ^ k)) *ℤ bottom) ≤ℤ (pos (start_scale m k) *ℤ high)

-- ---- two policies

-- In the long run `other` earns at most `more` more than `policy` from the start: for each tolerance of 1 / d millionths there is a
-- number of steps from which on its expected discounted rewards are at most those of `policy`, `more` and the tolerance.
abbrev pub EarnsAtMostMore : Meaning → Policy → Policy → ℤ → Type 0
EarnsAtMostMore m policy other more = (d : ℕ) → 0 < d → (first : ℕ) × ((k : ℕ) → first ≤ k
    → (pos d *ℤ start_rewards m other k) ≤ℤ (pos d *ℤ start_rewards m policy k +ℤ pos (d * start_scale m k) *ℤ more +ℤ pos (start_scale m k)))

-- It is a policy of the model, and no policy that sees the observations alone earns more than `gap` more from the start.
pub record IsOptimalTo (m : Meaning) (policy : ObservationPolicy) (gap : ℤ) : Type 0 where
  pub is_policy : IsPolicyOf (table_of m) (as_policy policy)
  pub none_better : (other : ObservationPolicy) → IsPolicyOf (table_of m) (as_policy other) → EarnsAtMostMore m (as_policy policy) (as_policy other) gap
