-- A policy graph as a policy, and what the values of its nodes have to do with bounds.
use Rattle.std.specs.Prelude.{◌≡◌, ℕ, ◌<◌, ℤ, ◌≤ℤ◌, List, [], ◌∷◌, Option, Some, None}
use Rattle.polcert_cells.specs.Tables.{CellTable}
use Rattle.polcert_policy.specs.Graphs.{PolicyGraph, IsProperGraph, nodes, action_of}
use Rattle.polcert_policy.specs.Vectors.{PolicyVectors, value_of}
use Rattle.polcert_check.specs.Horizon.{Controller, Fits, controller_of, rewards_sum}
use Rattle.polcert_check.specs.Shortfall.{Passes}
use Rattle.polcert_optimum.specs.Policy.{ObservationPolicy, as_policy, IsPolicyOf, expected_rewards}

-- the node that is reached from a node by observations, if there is a successor for each of them
abbrev pub node_after : Controller → Option ℕ → List ℕ → Option ℕ
node_after c None observations = None
node_after c (Some n) [] = Some n
node_after c (Some n) (z ∷ observations) = node_after c (c.next n z) observations

-- the node's action; if there is no node, the first action
abbrev pub action_at : Controller → Option ℕ → ℕ
action_at c None = 0
action_at c (Some n) = c.action n

-- the policy that the controller follows from a node
abbrev pub graph_policy : Controller → Option ℕ → ObservationPolicy
graph_policy c at = λ observations. action_at c (node_after c at observations)

-- It is a policy of the model, and earns the same as the controller, in every number of steps and from every state.
pub record EarnsAsItsPolicy (c : Controller) (n : ℕ) : Type 0 where
  pub is_policy : IsPolicyOf c.cells (as_policy (graph_policy c (Some n)))
  pub earns : (k s : ℕ) → s < c.cells.states → rewards_sum c k (Some n) s ≡ expected_rewards c.cells (as_policy (graph_policy c (Some n))) k s

-- The vectors of no graph that pass from below are anywhere above the vector of the node's action.
abbrev pub BoundEveryGraph : CellTable → (ℕ → ℕ → ℤ) → Type 0
BoundEveryGraph t vectors = (graph : PolicyGraph) (low : PolicyVectors) → IsProperGraph graph → Fits t graph low → Passes (controller_of t graph low)
    → (n s : ℕ) → n < nodes graph → s < t.states → value_of low n s ≤ℤ vectors (action_of graph n) s
