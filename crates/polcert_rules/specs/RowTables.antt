-- The rows of T or O as callers see them, and their sums.
use Rattle.std.specs.Prelude.{◌≡◌, ℕ, ◌*◌, ◌<◌, List, [], ◌∷◌, slice_index, slice_index_or}
use Rattle.polcert_cells.specs.declared.entries.Table.{Table}
use Rattle.polcert_cells.specs.declared.entries.Entry.{Entry}
use Rattle.polcert_cells.specs.Elements.{count_of}
use Rattle.polcert_cells.specs.Numbers.{one}
use Rattle.polcert_cells.specs.Preamble.{Preamble, columns}
use Rattle.polcert_cells.specs.Cells.{weight}
use Rattle.polcert_cells.specs.Meaning.{sum_below}
use Rattle.polcert_cells.specs.declared.elements.Cell.{Cell}
use Rattle.polcert_cells.specs.Sparse.{IsRow}
use Rattle.polcert_rules.specs.declared.rows.WrongRow.{WrongRow}

-- the counts of a table, of each action the number of the row of each state, and the rows by their numbers
pub record RowTable : Type 0 where
  pub actions : ℕ
  pub states : ℕ
  pub columns : ℕ
  pub numbers : List (List ℕ)
  pub rows : List (List Cell)

-- the row of an action and a state
abbrev pub row_at : RowTable → ℕ → ℕ → List Cell
row_at t a s = slice_index_or t.rows (slice_index (slice_index_or t.numbers a []) s) []

-- Each row is that of the entries: its cells are the columns with a weight above 0, with their weights.
pub record AreRowsOf (p : Preamble) (entries : List Entry) (table : Table) (t : RowTable) : Type 0 where
  pub actions : t.actions ≡ count_of p.actions
  pub states : t.states ≡ count_of p.states
  pub width : t.columns ≡ columns p table
  pub each : (a s : ℕ) → a < t.actions → s < t.states → IsRow t.columns (λ c. weight p entries table (a ∷ s ∷ c ∷ [])) (row_at t a s)

-- The row that the entries give an action and a state sums to its scale.
abbrev pub GivesProperRow : Preamble → List Entry → Table → ℕ → ℕ → Type 0
GivesProperRow p entries table a s = sum_below (λ c. weight p entries table (a ∷ s ∷ c ∷ [])) (columns p table) ≡ one * columns p table

abbrev pub AreProperRows : Preamble → List Entry → Table → Type 0
AreProperRows p entries table = (a s : ℕ) → a < count_of p.actions → s < count_of p.states → GivesProperRow p entries table a s

-- The first row that does not, by action and then by state.
pub record IsFirstWrongEntryRow (p : Preamble) (entries : List Entry) (table : Table) (w : WrongRow) : Type 0 where
  pub table_is : w.table ≡ table
  pub action : w.action < count_of p.actions
  pub state : w.row < count_of p.states
  pub wrong : GivesProperRow p entries table w.action w.row → ⊥
  pub earlier_actions : (b r : ℕ) → b < w.action → r < count_of p.states → GivesProperRow p entries table b r
  pub same_action : (r : ℕ) → r < w.row → GivesProperRow p entries table w.action r
