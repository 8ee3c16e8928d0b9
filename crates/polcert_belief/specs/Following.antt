-- A policy that follows vectors by the belief: at each belief it takes the action of a vector that is best there.
--
-- Source: Smallwood and Sondik, The optimal control of partially observable Markov processes over a finite horizon (1973); Kaelbling,
-- Littman and Cassandra (1998), section 4.2. SARSOP, POMDPs.jl, pomdp_py and AI-Toolbox run their vectors so.
use Rattle.std.specs.Prelude.{◌≡◌, ℕ, ◌*◌, ◌^◌, ◌<◌, ℤ, pos, ◌+ℤ◌, ◌*ℤ◌, ◌≤ℤ◌, List, [], ◌∷◌, ◌++◌, map, Some}
use Rattle.polcert_check.specs.Horizon.{Controller, one, AtMost}
use Rattle.polcert_optimum.specs.Policy.{History, end_state, ObservationPolicy, as_policy, IsPolicyOf, step_scale, total_weight, expected_rewards, expected_total}
use Rattle.polcert_belief.specs.Belief.{Belief, mass, sum_over_belief, belief_after, AreModelObservations}

-- A selector picks, by the observations so far, the node whose vector is followed next.
abbrev pub Selector : Type 0
Selector = List ℕ → ℕ

-- the policy that takes the action of the node that is picked
abbrev pub policy_of : Controller → Selector → ObservationPolicy
policy_of c selector = λ observations. c.action (selector observations)

-- what the vector of node n is worth at the belief after observations
abbrev pub worth_after : Controller → Belief → Selector → List ℕ → ℕ → ℤ
worth_after c belief selector observations n = sum_over_belief c.cells (belief_after c.cells (policy_of c selector) belief observations) (c.value n)

-- what the belief after observations weighs
abbrev pub mass_after : Controller → Belief → Selector → List ℕ → ℕ
mass_after c belief selector observations = mass c.cells (belief_after c.cells (policy_of c selector) belief observations)

-- The selector picks a best vector at each belief: after whatever observations, no node's vector is worth more there.
pub record PicksBest (c : Controller) (belief : Belief) (selector : Selector) : Type 0 where
  pub are_nodes : (observations : List ℕ) → AreModelObservations c.cells observations → selector observations < c.nodes
  pub none_better : (observations : List ℕ) (m : ℕ) → AreModelObservations c.cells observations → m < c.nodes
      → worth_after c belief selector observations m ≤ℤ worth_after c belief selector observations (selector observations)

-- The selector picks no worse than the graph: after each further observation a vector that is worth at least as much at the belief there
-- as that of the successor of the node that was picked before.
pub record PicksNoWorse (c : Controller) (belief : Belief) (selector : Selector) : Type 0 where
  pub are_nodes : (observations : List ℕ) → AreModelObservations c.cells observations → selector observations < c.nodes
  pub no_worse : (observations : List ℕ) (z m : ℕ) → AreModelObservations c.cells observations → z < c.cells.observations → c.next (selector observations) z ≡ Some m
      → worth_after c belief selector (observations ++ (z ∷ [])) m ≤ℤ worth_after c belief selector (observations ++ (z ∷ [])) (selector (observations ++ (z ∷ [])))

-- the value of the vector that is picked where a history from state s ends
abbrev pub value_at_end : Controller → Selector → ℕ → History → ℤ
value_at_end c selector s history = c.value (selector (map (λ p. p.1) history)) (end_state s history)

-- From the belief the policy earns, in k steps, at least what the vector is worth that is picked first, with the discounted value of the
-- vector that is picked at the end. If no value is above m, the rewards alone are at least that less discount ^ k times m. All is on the
-- scale of k steps, times the mass of the belief.
pub record EarnsFromBelief (c : Controller) (policy : ObservationPolicy) (belief : Belief) (selector : Selector) (k : ℕ) : Type 0 where
  pub weights : sum_over_belief c.cells belief (total_weight c.cells (as_policy policy) k) ≡ pos (mass c.cells belief * step_scale c.cells ^ k)
  pub total : (pos (step_scale c.cells ^ k * one ^ k) *ℤ sum_over_belief c.cells belief (c.value (selector [])))
      ≤ℤ sum_over_belief c.cells belief (λ s. expected_total c.cells (value_at_end c selector s) (as_policy policy) k s)
  pub rewards : (m : ℤ) → AtMost c m → (pos (step_scale c.cells ^ k * one ^ k) *ℤ sum_over_belief c.cells belief (c.value (selector [])))
      ≤ℤ (sum_over_belief c.cells belief (expected_rewards c.cells (as_policy policy) k) +ℤ pos (mass c.cells belief * (c.cells.discount ^ k * step_scale c.cells ^ k)) *ℤ m)

-- It is a policy of the model, and earns that in every number of steps.
pub record EarnsWhatIsPicked (c : Controller) (policy : ObservationPolicy) (belief : Belief) (selector : Selector) : Type 0 where
  pub is_policy : IsPolicyOf c.cells (as_policy policy)
  pub earns : (k : ℕ) → EarnsFromBelief c policy belief selector k
