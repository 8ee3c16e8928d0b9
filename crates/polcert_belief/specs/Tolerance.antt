-- What planners earn that pick by rounded beliefs or rounded vectors.
use Rattle.std.specs.Prelude.{◌≡◌, ℕ, suc, ◌-◌, ◌*◌, ◌^◌, ◌<◌, ◌≤◌, unsigned_abs, ℤ, pos, ◌+ℤ◌, ◌-ℤ◌, ◌*ℤ◌, ◌≤ℤ◌, List, [], ◌∷◌, ◌++◌, Some}
use Rattle.polcert_cells.specs.Meaning.{sum_below}
use Rattle.polcert_cells.specs.Tables.{CellTable}
use Rattle.polcert_check.specs.Horizon.{Controller, one, AtMost}
use Rattle.polcert_optimum.specs.Policy.{ObservationPolicy, as_policy, IsPolicyOf, step_scale, expected_rewards, expected_total}
use Rattle.polcert_belief.specs.Belief.{Belief, mass, sum_over_belief, belief_after, AreModelObservations}
use Rattle.polcert_belief.specs.Following.{Selector, policy_of, worth_after, mass_after, value_at_end}

-- ---- how far a pick may be from the best

-- The selector picks a vector that is best within `by` / `d` millionths: after whatever observations no vector is worth more by a greater
-- part of the belief's mass.
pub record PicksWithin (by d : ℕ) (c : Controller) (belief : Belief) (selector : Selector) : Type 0 where
  pub are_nodes : (observations : List ℕ) → AreModelObservations c.cells observations → selector observations < c.nodes
  pub none_better : (observations : List ℕ) (m : ℕ) → AreModelObservations c.cells observations → m < c.nodes
      → (pos d *ℤ worth_after c belief selector observations m) ≤ℤ (pos d *ℤ worth_after c belief selector observations (selector observations) +ℤ pos (by * mass_after c belief selector observations))

-- it picks no worse than the graph, within `by` / `d` millionths
pub record PicksNoWorseWithin (by d : ℕ) (c : Controller) (belief : Belief) (selector : Selector) : Type 0 where
  pub are_nodes : (observations : List ℕ) → AreModelObservations c.cells observations → selector observations < c.nodes
  pub no_worse : (observations : List ℕ) (z m : ℕ) → AreModelObservations c.cells observations → z < c.cells.observations → c.next (selector observations) z ≡ Some m
      → (pos d *ℤ worth_after c belief selector (observations ++ (z ∷ [])) m)
      ≤ℤ (pos d *ℤ worth_after c belief selector (observations ++ (z ∷ [])) (selector (observations ++ (z ∷ []))) +ℤ pos (by * mass_after c belief selector (observations ++ (z ∷ []))))

-- What a planner computes: after whatever observations a score for each node, in parts of 1 / `d` millionths of the belief's mass. Apart
-- from a shift of all scores, none is below what its vector is worth there, and none is more than `by` parts above it.
pub record AreScoresWithin (by d : ℕ) (c : Controller) (belief : Belief) (selector : Selector) (score : List ℕ → ℕ → ℤ) (shift : List ℕ → ℤ) : Type 0 where
  pub not_below : (observations : List ℕ) (m : ℕ) → AreModelObservations c.cells observations → m < c.nodes
      → (pos d *ℤ worth_after c belief selector observations m +ℤ shift observations) ≤ℤ score observations m
  pub not_above : (observations : List ℕ) (m : ℕ) → AreModelObservations c.cells observations → m < c.nodes
      → score observations m ≤ℤ (pos d *ℤ worth_after c belief selector observations m +ℤ shift observations +ℤ pos (by * mass_after c belief selector observations))

-- the selector picks a node with the greatest score
pub record PicksGreatest (c : Controller) (selector : Selector) (score : List ℕ → ℕ → ℤ) : Type 0 where
  pub are_nodes : (observations : List ℕ) → AreModelObservations c.cells observations → selector observations < c.nodes
  pub none_greater : (observations : List ℕ) (m : ℕ) → AreModelObservations c.cells observations → m < c.nodes → score observations m ≤ℤ score observations (selector observations)

-- Vectors that a planner runs in the place of those of the graph: apart from a shift of all values, each is at least the graph's and at most
-- `by` / `d` millionths above it. So are vectors with more decimals, and vectors from which the graph's were lowered by one constant.
abbrev pub AreValuesNear : ℕ → ℕ → Controller → (ℕ → ℕ → ℤ) → ℤ → Type 0
AreValuesNear by d c run shift = (n s : ℕ) → n < c.nodes → s < c.cells.states
    → ((pos d *ℤ c.value n s +ℤ shift) ≤ℤ run n s) × (run n s ≤ℤ (pos d *ℤ c.value n s +ℤ shift +ℤ pos by))

-- what a planner's vector n is worth to it after observations, by exact beliefs
abbrev pub run_worth : Controller → Belief → Selector → (ℕ → ℕ → ℤ) → List ℕ → ℕ → ℤ
run_worth c belief selector run observations n = sum_over_belief c.cells (belief_after c.cells (policy_of c selector) belief observations) (run n)

-- How far a belief is from another one: the sum over the states of the differences of their shares of the mass, on the scale of both masses.
abbrev pub distance : CellTable → Belief → Belief → ℕ
distance t belief other = sum_below (λ s. unsigned_abs (pos (belief s * mass t other) -ℤ pos (other s * mass t belief))) t.states

-- A planner's beliefs are, after whatever observations, within `by` / `d` of the beliefs that they stand for, unless those weigh nothing.
abbrev pub AreBeliefsNear : ℕ → ℕ → Controller → Belief → Selector → (List ℕ → Belief) → Type 0
AreBeliefsNear by d c belief selector tracked = (observations : List ℕ) → AreModelObservations c.cells observations → 0 < mass_after c belief selector observations
    → (0 < mass c.cells (tracked observations))
    × (d * distance c.cells (belief_after c.cells (policy_of c selector) belief observations) (tracked observations) ≤ by * (mass_after c belief selector observations * mass c.cells (tracked observations)))

-- the selector picks a vector that is best at the planner's belief
pub record PicksBestAt (c : Controller) (selector : Selector) (tracked : List ℕ → Belief) : Type 0 where
  pub are_nodes : (observations : List ℕ) → AreModelObservations c.cells observations → selector observations < c.nodes
  pub none_better : (observations : List ℕ) (m : ℕ) → AreModelObservations c.cells observations → m < c.nodes
      → sum_over_belief c.cells (tracked observations) (c.value m) ≤ℤ sum_over_belief c.cells (tracked observations) (c.value (selector observations))

-- no two vectors differ by more than `range` at a state
abbrev pub DifferAtMost : Controller → ℕ → Type 0
DifferAtMost c range = (m n s : ℕ) → m < c.nodes → n < c.nodes → s < c.cells.states → c.value m s ≤ℤ (c.value n s +ℤ pos range)

-- ---- what that costs

-- discount + discount ^ 2 + .. + discount ^ k, on the scale one ^ k
abbrev pub discounts : ℕ → ℕ → ℕ
discounts discount k = sum_below (λ i. discount ^ suc i * one ^ (k - suc i)) k

-- what picks within a tolerance of one millionth cost in k steps, the first one aside
abbrev pub loss : Controller → Belief → ℕ → ℕ
loss c belief k = mass c.cells belief * step_scale c.cells ^ k * discounts c.cells.discount k

-- In k steps the policy earns at least what the vector is worth that is picked first, less `by` / `d` millionths for each later pick,
-- discounted. Both sides are multiplied by d.
pub record EarnsWithin (by d : ℕ) (c : Controller) (policy : ObservationPolicy) (belief : Belief) (selector : Selector) (k : ℕ) : Type 0 where
  pub is_policy : IsPolicyOf c.cells (as_policy policy)
  pub total : (pos (d * (step_scale c.cells ^ k * one ^ k)) *ℤ sum_over_belief c.cells belief (c.value (selector [])))
      ≤ℤ (pos d *ℤ sum_over_belief c.cells belief (λ s. expected_total c.cells (value_at_end c selector s) (as_policy policy) k s) +ℤ pos (by * loss c belief k))
  pub rewards : (m : ℤ) → AtMost c m → (pos (d * (step_scale c.cells ^ k * one ^ k)) *ℤ sum_over_belief c.cells belief (c.value (selector [])))
      ≤ℤ (pos d *ℤ (sum_over_belief c.cells belief (expected_rewards c.cells (as_policy policy) k) +ℤ pos (mass c.cells belief * (c.cells.discount ^ k * step_scale c.cells ^ k)) *ℤ m) +ℤ pos (by * loss c belief k))
