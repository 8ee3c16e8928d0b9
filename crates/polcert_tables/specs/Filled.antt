-- Filled tables: every cell of T, O and R in a list, row after row.
-- Our own: the file format gives cells by entries, and does not say how a program keeps them.
use Rattle.std.specs.Prelude.{◌≡◌, ℕ, ◌+◌, ◌*◌, ◌<◌, List, length, get_or, ℤ, pos}
use Rattle.polcert_cells.specs.Numbers.{one}
use Rattle.polcert_cells.specs.Tables.{CellTable, IsProper, IsWithinLimits}

-- counts, the discount in millionths, and the cells of T, O and R: those of a row side by side, and row after row
pub record Lists : Type 0 where
  pub states : ℕ
  pub actions : ℕ
  pub observations : ℕ
  pub discount : ℕ
  pub ts : List ℕ
  pub os : List ℕ
  pub rs : List ℤ

abbrev pub lists_of : (states actions observations discount : ℕ) → List ℕ → List ℕ → List ℤ → Lists
lists_of states actions observations discount ts os rs = record {
  states = states;
  actions = actions;
  observations = observations;
  discount = discount;
  ts = ts;
  os = os;
  rs = rs;
}

-- the table that they are
abbrev pub filled_table : Lists → CellTable
filled_table l = record {
  states = l.states;
  actions = l.actions;
  observations = l.observations;
  discount = l.discount;
  t_scale = one * l.states;
  o_scale = one * l.observations;
  t = (λ a s e. get_or l.ts ((a * l.states + s) * l.states + e) 0);
  o = (λ a e z. get_or l.os ((a * l.states + e) * l.observations + z) 0);
  r = (λ a s e z. get_or l.rs (((a * l.states + s) * l.states + e) * l.observations + z) (pos 0));
}

-- filled tables whose rows sum to their scales, and that lie within limits
pub record Filled : Type 0 where
  pub lists : Lists
  pub rows : IsProper (filled_table lists)
  pub limits : IsWithinLimits (filled_table lists)

-- the list is every cell of T: action after action, start state after start state, end state after end state
pub record AreTransitions (m : CellTable) (ts : List ℕ) : Type 0 where
  pub count : length ts ≡ m.actions * m.states * m.states
  pub cells : (a s e : ℕ) → a < m.actions → s < m.states → e < m.states → get_or ts ((a * m.states + s) * m.states + e) 0 ≡ m.t a s e

-- the list is every cell of O: action after action, end state after end state, observation after observation
pub record AreObservations (m : CellTable) (os : List ℕ) : Type 0 where
  pub count : length os ≡ m.actions * m.states * m.observations
  pub cells : (a e z : ℕ) → a < m.actions → e < m.states → z < m.observations → get_or os ((a * m.states + e) * m.observations + z) 0 ≡ m.o a e z

-- the list is every cell of R: action after action, start state after start state, end state after end state,
-- observation after observation
pub record AreRewards (m : CellTable) (rs : List ℤ) : Type 0 where
  pub count : length rs ≡ m.actions * m.states * m.states * m.observations
  pub cells : (a s e z : ℕ) → a < m.actions → s < m.states → e < m.states → z < m.observations → get_or rs (((a * m.states + s) * m.states + e) * m.observations + z) (pos 0) ≡ m.r a s e z

-- after what was there stand this many cells more, which are those of f
pub record AddsCells (f : ℕ → ℤ) (count : ℕ) (old new : List ℤ) : Type 0 where
  pub size : length new ≡ length old + count
  pub kept : (k : ℕ) → k < length old → get_or new k (pos 0) ≡ get_or old k (pos 0)
  pub cells : (k : ℕ) → k < count → get_or new (length old + k) (pos 0) ≡ f k
