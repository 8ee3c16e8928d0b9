-- Lists that stand one after another in one list. Nobody has to believe this file: only the view of a private type cites it.
use Rattle.std.specs.Prelude.{◌≡◌, ℕ, zero, suc, ◌+◌, ◌*◌, ◌<◌, ◌≤◌, All, List, [], ◌∷◌, ◌++◌, length, slice_index, nat_lt, if◌then◌else◌}
use Rattle.std.specs.List.{slice_range}
use Rattle.polcert_cells.specs.Meaning.{sum_below}
use Rattle.polcert_cells.specs.Numbers.{one}
use Rattle.polcert_cells.specs.Sparse.{scaled_cells, excepted_weight}
use Rattle.polcert_cells.specs.declared.elements.Cell.{Cell}
use Rattle.polcert_rules.specs.Steps.Merging.{Rises}
use Rattle.polcert_rules.specs.declared.row_store.Part.{Part}
use Rattle.polcert_rules.specs.declared.rows.RowForm.{RowForm}
use Rattle.polcert_rules.specs.declared.rows.RowForm.TheVariants as forms
use Rattle.polcert_rules.specs.declared.rows.RowLocation.{RowLocation}
use Rattle.polcert_rules.specs.declared.rows.StoredRow.{StoredRow}
use Rattle.polcert_rules.specs.declared.rows.StoredRow.TheVariants as stored

abbrev pub part_in : {X : Type 0} → List X → Part → List X
part_in xs p = slice_range xs p.start p.end

-- the part lies in a list of this length
pub record PartLiesIn (len : ℕ) (p : Part) : Type 0 where
  pub order : p.start ≤ p.end
  pub room : p.end ≤ len

-- ---- rows of one weight but for exceptions
-- the cells of the first columns that have a weight above 0
abbrev pub filled_cells : (ℕ → ℕ) → ℕ → List Cell
filled_cells weights zero = []
filled_cells weights (suc n) =
    if nat_lt 0 (weights n) then (filled_cells weights n ++ record { column = n; weight = weights n } ∷ []) else filled_cells weights n

-- the exceptions are in order, and the row sums to its scale
pub record AreExceptions (weight columns : ℕ) (exceptions : List Cell) : Type 0 where
  pub small : weight ≤ one * columns
  pub rise : Rises 0 columns exceptions
  pub proper : sum_below (excepted_weight weight exceptions) columns ≡ one * columns

-- before the exceptions stands a cell of the number of columns and their weight
abbrev pub even_cells : List Cell → List Cell
even_cells [] = []
even_cells (x ∷ xs) = filled_cells (excepted_weight x.weight xs) x.column

abbrev pub AreEvenCells : List Cell → Type 0
AreEvenCells [] = ⊥
AreEvenCells (x ∷ xs) = AreExceptions x.weight x.column xs

-- ---- rows in two lists, by their forms
abbrev pub cells_by_form : List Cell → List ℕ → RowForm → ℕ → ℕ → List Cell
cells_by_form cells numbers forms.Sparse start count = slice_range cells start (start + count)
cells_by_form cells numbers forms.Full start count = scaled_cells count 0 (slice_range numbers start (start + count))
cells_by_form cells numbers forms.Even start count = even_cells (slice_range cells start (start + count))

abbrev pub row_in : List Cell → List ℕ → RowLocation → List Cell
row_in cells numbers p = cells_by_form cells numbers p.form p.start p.count

-- the row lies in its list
abbrev pub RowLiesIn : RowForm → ℕ → ℕ → ℕ → Type 0
RowLiesIn forms.Sparse cells numbers end = end ≤ cells
RowLiesIn forms.Full cells numbers end = end ≤ numbers
RowLiesIn forms.Even cells numbers end = end ≤ cells

-- the cells of a row are as its form wants them
abbrev pub FitForm : RowForm → List Cell → Type 0
FitForm forms.Sparse part = Unit {0}
FitForm forms.Full part = Unit {0}
FitForm forms.Even part = AreEvenCells part

pub record IsHeld (cells : List Cell) (numbers : List ℕ) (p : RowLocation) : Type 0 where
  pub room : RowLiesIn p.form (length cells) (length numbers) (p.start + p.count)
  pub fit : FitForm p.form (slice_range cells p.start (p.start + p.count))

-- the cells of a row, whatever its form
abbrev pub stored_cells : StoredRow → List Cell
stored_cells (stored.Sparse cells) = cells.now
stored_cells (stored.Full numbers columns) = scaled_cells columns 0 numbers.now
stored_cells (stored.Even weight columns exceptions) = filled_cells (excepted_weight weight exceptions.now) columns

-- what is known of a row by its form
abbrev pub IsStored : StoredRow → Type 0
IsStored (stored.Sparse cells) = Unit {0}
IsStored (stored.Full numbers columns) = Unit {0}
IsStored (stored.Even weight columns exceptions) = AreExceptions weight columns exceptions.now

-- the number of each column, in millionths, of a row with these weights
pub record IsFullLine (columns : ℕ) (weights : ℕ → ℕ) (numbers : List ℕ) : Type 0 where
  pub size : length numbers ≡ columns
  pub small : All (λ n. n ≤ one) numbers
  pub each : (c : ℕ) → c < columns → slice_index numbers c * columns ≡ weights c
