-- Points as a check reads them: with the counts that they are for, and the points that they name.
use Rattle.std.specs.Prelude.{◌≡◌, ◌⊎◌, ℕ, ◌+◌, ◌*◌, ◌<◌, ◌≤◌, ℤ, pos, ◌≤ℤ◌, unsigned_abs, List, Some, slice_index_or}
use Rattle.polcert_text.specs.Numbers.{largest}
use Rattle.polcert_cells.specs.Meaning.{sum_below}
use Rattle.polcert_cells.specs.Tables.{CellTable}
use Rattle.polcert_policy.specs.Points.{PointValues, point_count, point_weight, value_at, named_at}
use Rattle.polcert_points.specs.Belief.{Belief}
use Rattle.polcert_points.specs.Points.{Points}
use Rattle.polcert_points.specs.PointCheck.{Next}

pub record PointTable : Type 0 where
  -- how many states, actions and observations they are for
  pub states : ℕ
  pub actions : ℕ
  pub observations : ℕ
  pub points : Points
  -- at a point, an action and an observation, the point that covers the belief that follows
  pub next : Next

-- Weights are in millionths, and so are values, which lie within their limit; each named point is one of the points.
pub record IsProperPointTable (p : PointTable) : Type 0 where
  pub some : (i : ℕ) → i < p.points.count → 1 ≤ sum_below (p.points.belief i) p.states
  pub few : (i : ℕ) → i < p.points.count → sum_below (p.points.belief i) p.states ≤ 1000000
  pub values : (i a : ℕ) → i < p.points.count → a < p.actions → unsigned_abs (p.points.value i a) ≤ largest
  pub named : (i a z j : ℕ) → i < p.points.count → a < p.actions → z < p.observations → p.next i a z ≡ Some j → j < p.points.count

-- the points of a text
abbrev pub table_of_set : PointValues → PointTable
table_of_set p = record {
  states = p.states;
  actions = p.actions;
  observations = p.observations;
  points = record { count = point_count p; belief = point_weight p; value = value_at p };
  next = named_at p;
}

-- they are for this model
pub record FitPoints (t : CellTable) (p : PointTable) : Type 0 where
  pub states : p.states ≡ t.states
  pub actions : p.actions ≡ t.actions
  pub observations : p.observations ≡ t.observations

-- ---- charges

-- the belief is this state alone
pub record IsOneState (states : ℕ) (b : Belief) (s : ℕ) : Type 0 where
  pub some : 0 < b s
  pub alone : (e : ℕ) → e < states → (e ≡ s → ⊥) → b e ≡ 0

-- The charge of an action at a state: the least of the vector's value and of the values of those of the first points, this many, that
-- are the state alone.
pub record IsLeastCharge (p : PointTable) (vectors : ℕ → ℕ → ℤ) (a s count : ℕ) (charge : ℤ) : Type 0 where
  pub vector : charge ≤ℤ vectors a s
  pub corners : (i : ℕ) → i < count → IsOneState p.states (p.points.belief i) s → charge ≤ℤ p.points.value i a
  pub is_reached : (charge ≡ vectors a s) ⊎ ((i : ℕ) × (i < count) × IsOneState p.states (p.points.belief i) s × (charge ≡ p.points.value i a))

-- at every action and state, over all points
abbrev pub AreLeastCharges : PointTable → (ℕ → ℕ → ℤ) → (ℕ → ℕ → ℤ) → Type 0
AreLeastCharges p vectors charges = (a s : ℕ) → a < p.actions → s < p.states → IsLeastCharge p vectors a s p.points.count (charges a s)

-- a table of charges that is kept in a list, action by action
abbrev pub charge_at : PointTable → List ℤ → ℕ → ℕ → ℤ
charge_at p charges a s = slice_index_or charges (a * p.states + s) (pos 0)
