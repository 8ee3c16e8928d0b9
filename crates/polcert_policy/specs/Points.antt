-- Belief points: at each a weight for each state, and for each action a value and the points that are named.
use Rattle.std.specs.Prelude.{◌≡◌, ℕ, ◌+◌, ◌*◌, ◌<◌, ◌≤◌, ℤ, pos, unsigned_abs, Option, Some, None, List, [], length, slice_get, slice_index_or}
use Rattle.polcert_text.specs.Numbers.{largest}
use Rattle.polcert_cells.specs.declared.elements.Cell.{Cell}
use Rattle.polcert_cells.specs.Meaning.{sum_below}
use Rattle.polcert_cells.specs.Sparse.{weight_at, IsSparse}
use Rattle.polcert_cells.specs.Elements.{most_states, most_actions, most_observations}
use Rattle.polcert_policy.specs.Vectors.{IsInRange}

-- weights and values are in millionths
pub record PointValues : Type 0 where
  -- how many states, actions and observations they are for
  pub states : ℕ
  pub actions : ℕ
  pub observations : ℕ
  -- the weights above 0 of each point
  pub rows : List (List Cell)
  -- for each action a value, point by point
  pub values : List ℤ
  -- for each observation the point that covers the belief after it, if one does, point by point and action by action
  pub names : List (Option ℕ)

abbrev pub point_count : PointValues → ℕ
point_count p = length p.rows

-- the weight of state s at point i
abbrev pub point_weight : PointValues → ℕ → ℕ → ℕ
point_weight p i = weight_at (slice_index_or p.rows i [])

-- the value of action a at point i
abbrev pub value_at : PointValues → ℕ → ℕ → ℤ
value_at p i a = slice_index_or p.values (i * p.actions + a) (pos 0)

-- the point that is named to cover the belief after action a and observation z at point i, if one is
abbrev pub named_at : PointValues → ℕ → ℕ → ℕ → Option ℕ
named_at p i a z = slice_index_or p.names ((i * p.actions + a) * p.observations + z) None

abbrev pub most_points : ℕ
most_points = 10_000

-- the sum of a point's weights: above 0, and at most 1
pub record IsMass (mass : ℕ) : Type 0 where
  pub some : 1 ≤ mass
  pub few : mass ≤ 1_000_000

-- what is true of all points
pub record AreProperPoints (p : PointValues) : Type 0 where
  pub some_states : 1 ≤ p.states
  pub few_states : p.states ≤ most_states
  pub some_actions : 1 ≤ p.actions
  pub few_actions : p.actions ≤ most_actions
  pub some_observations : 1 ≤ p.observations
  pub few_observations : p.observations ≤ most_observations
  pub few_points : point_count p ≤ most_points
  pub mass : (i : ℕ) → i < point_count p → IsMass (sum_below (point_weight p i) p.states)
  pub values : (i a : ℕ) → i < point_count p → a < p.actions → unsigned_abs (value_at p i a) ≤ largest
  pub named : (i a z j : ℕ) → i < point_count p → a < p.actions → z < p.observations → named_at p i a z ≡ Some j → j < point_count p

-- the weights above 0 of a point
pub record IsPointRow (states : ℕ) (row : List Cell) : Type 0 where
  pub sparse : IsSparse states row
  pub mass : IsMass (sum_below (weight_at row) states)

-- the same of the lists
pub record AreProperLists (states actions observations : ℕ) (rows : List (List Cell)) (values : List ℤ) (names : List (Option ℕ)) : Type 0 where
  pub some_states : 1 ≤ states
  pub few_states : states ≤ most_states
  pub some_actions : 1 ≤ actions
  pub few_actions : actions ≤ most_actions
  pub some_observations : 1 ≤ observations
  pub few_observations : observations ≤ most_observations
  pub few_points : length rows ≤ most_points
  pub rows_are : (i : ℕ) (row : List Cell) → slice_get rows i ≡ Some row → IsPointRow states row
  pub all_values : length values ≡ length rows * actions
  pub all_names : length names ≡ length rows * actions * observations
  pub in_range : (k : ℕ) (h : ℤ) → slice_get values k ≡ Some h → IsInRange h
  pub bound : (k m : ℕ) → slice_get names k ≡ Some (Some m) → m < length rows
