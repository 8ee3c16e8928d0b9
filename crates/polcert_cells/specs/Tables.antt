-- What a check sees of a model: counts, scales, and the cells as functions of indices.
-- Source: the POMDP file format page at pomdp.org. Probabilities are whole numbers over a scale, discount and rewards
-- are in millionths.
use Rattle.std.specs.Prelude.{◌≡◌, ℕ, ◌*◌, ◌<◌, ◌≤◌, ℤ, unsigned_abs}
use Rattle.polcert_text.specs.Numbers.{largest}
use Rattle.polcert_cells.specs.Elements.{most_states, most_actions, most_observations, most_pairs}
use Rattle.polcert_cells.specs.Numbers.{one}
use Rattle.polcert_cells.specs.Meaning.{Meaning, states_of, actions_of, observations_of, t_scale, o_scale, sum_below, IsCount}

-- A model as a check sees it: counts, scales and cells.
pub record CellTable : Type 0 where
  pub states : ℕ
  pub actions : ℕ
  pub observations : ℕ
  -- the discount, in millionths
  pub discount : ℕ
  -- what each row of t, and of o, sums to
  pub t_scale : ℕ
  pub o_scale : ℕ
  -- at an action, a start state and an end state
  pub t : ℕ → ℕ → ℕ → ℕ
  -- at an action, an end state and an observation
  pub o : ℕ → ℕ → ℕ → ℕ
  -- at an action, a start state, an end state and an observation, in millionths
  pub r : ℕ → ℕ → ℕ → ℕ → ℤ

-- the table of what a model means
abbrev pub table_of : Meaning → CellTable
table_of m = record {
  states = states_of m;
  actions = actions_of m;
  observations = observations_of m;
  discount = m.preamble.discount;
  t_scale = t_scale m;
  o_scale = o_scale m;
  t = m.t;
  o = m.o;
  r = m.r;
}

-- each row sums to its scale, exactly
pub record IsProper (m : CellTable) : Type 0 where
  pub t_rows : (a s : ℕ) → a < m.actions → s < m.states → sum_below (m.t a s) m.states ≡ m.t_scale
  pub o_rows : (a e : ℕ) → a < m.actions → e < m.states → sum_below (m.o a e) m.observations ≡ m.o_scale

-- counts, scales, discount and rewards lie within their limits
pub record IsWithinLimits (m : CellTable) : Type 0 where
  pub states : IsCount most_states m.states
  pub actions : IsCount most_actions m.actions
  pub observations : IsCount most_observations m.observations
  pub pairs : m.states * m.observations ≤ most_pairs
  pub discount : m.discount ≤ one
  pub t_scale : m.t_scale ≡ one * m.states
  pub o_scale : m.o_scale ≡ one * m.observations
  pub r : (a s e z : ℕ) → a < m.actions → s < m.states → e < m.states → z < m.observations → unsigned_abs (m.r a s e z) ≤ largest
