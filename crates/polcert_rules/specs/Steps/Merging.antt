-- A row's single cells over what covers the whole row. Nobody has to believe this file: only private functions cite it.
use Rattle.std.specs.Prelude.{ℕ, ◌+◌, ◌<◌, ◌≤◌, ◌==◌, Bool, true, List, [], ◌∷◌, ◌++◌, Option, Some, None, nat_lt, if◌then◌else◌}
use Rattle.polcert_cells.specs.declared.entries.Table.{Table}
use Rattle.polcert_cells.specs.declared.entries.Entry.{Entry}
use Rattle.polcert_cells.specs.Cells.{last_covering, value_or}
use Rattle.polcert_cells.specs.declared.elements.Cell.{Cell}
use Rattle.polcert_rules.specs.declared.index.Rule.{Rule}
use Rattle.polcert_rules.specs.Steps.Newest.{entry_at}
use Rattle.polcert_rules.specs.Steps.Given.{entry_weight}

-- what the entries give a cell, by the last that covers it
abbrev pub weight_by_entries : ℕ → List Entry → Table → ℕ → ℕ → ℕ → ℕ
weight_by_entries columns entries table a s c = value_or 0 (λ e. entry_weight columns e s c) (last_covering entries table (a ∷ s ∷ c ∷ []))

-- what the entry of this number gives a column, or 0 where there is none
abbrev pub given_at : ℕ → List Entry → Option ℕ → ℕ → ℕ → ℕ
given_at columns entries number s c = value_or 0 (λ e. entry_weight columns e s c) (entry_at entries number)

-- a number is greater than that of what is under it
abbrev pub is_newer : Option ℕ → ℕ → Bool
is_newer None number = true
is_newer (Some covering_entry) number = nat_lt covering_entry number

-- the single cells that are newer than what is under them, column by column, with what their entries give
abbrev pub newer_cells : ℕ → List Entry → (ℕ → Option ℕ) → ℕ → List Rule → List Cell
newer_cells columns entries covering_entry s [] = []
newer_cells columns entries covering_entry s (r ∷ rs) =
    if is_newer (covering_entry r.key) r.number then (record { column = r.key; weight = given_at columns entries (Some r.number) s r.key } ∷ newer_cells columns entries covering_entry s rs) else newer_cells columns entries covering_entry s rs

-- the cells before a column
abbrev pub before : ℕ → List Cell → List Cell
before column [] = []
before column (x ∷ xs) = if nat_lt x.column column then (x ∷ before column xs) else []

-- the cells from a column on
abbrev pub from : ℕ → List Cell → List Cell
from column [] = []
from column (x ∷ xs) = if nat_lt x.column column then from column xs else (x ∷ xs)

-- the cells after a column
abbrev pub following : ℕ → List Cell → List Cell
following column [] = []
following column (x ∷ xs) = if nat_lt x.column column then following column xs else (if x.column == column then xs else (x ∷ xs))

-- the cell has a weight
abbrev pub has_weight : Cell → Bool
has_weight cell = nat_lt 0 cell.weight

-- with a cell in front, if it has a weight
abbrev pub with_cell : Cell → List Cell → List Cell
with_cell x xs = if has_weight x then (x ∷ xs) else xs

-- newer cells over a row: each hides the row's cell in its column
abbrev pub merged : List Cell → List Cell → List Cell
merged base [] = base
merged base (x ∷ xs) = before x.column base ++ with_cell x (merged (following x.column base) xs)

-- the weight of a column: that of a newer cell, or else this one
abbrev pub weight_over : List Cell → (ℕ → ℕ) → ℕ → ℕ
weight_over [] f column = f column
weight_over (x ∷ xs) f column = if x.column == column then x.weight else weight_over xs f column

-- the columns rise from this one on, below this many
abbrev pub Rises : ℕ → ℕ → List Cell → Type 0
Rises low columns [] = Unit {0}
Rises low columns (x ∷ xs) = (low ≤ x.column) × (x.column < columns) × Rises (x.column + 1) columns xs
