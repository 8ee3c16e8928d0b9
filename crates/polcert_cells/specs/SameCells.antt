-- Two tables that say the same as far as indices are in range. Our own: the file format speaks of one model at a time.
use Rattle.std.specs.Prelude.{◌≡◌, ℕ, ◌<◌}
use Rattle.polcert_cells.specs.Tables.{CellTable}

-- the same counts, discount and scales, and the same cells
pub record HasSameCells (x y : CellTable) : Type 0 where
  pub states : x.states ≡ y.states
  pub actions : x.actions ≡ y.actions
  pub observations : x.observations ≡ y.observations
  pub discount : x.discount ≡ y.discount
  pub t_scale : x.t_scale ≡ y.t_scale
  pub o_scale : x.o_scale ≡ y.o_scale
  pub t : (a s e : ℕ) → a < x.actions → s < x.states → e < x.states → x.t a s e ≡ y.t a s e
  pub o : (a e z : ℕ) → a < x.actions → e < x.states → z < x.observations → x.o a e z ≡ y.o a e z
  pub r : (a s e z : ℕ) → a < x.actions → s < x.states → e < x.states → z < x.observations → x.r a s e z ≡ y.r a s e z
