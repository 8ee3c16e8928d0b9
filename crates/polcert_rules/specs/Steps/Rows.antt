-- The rows of T and O, as an index gives them.
use Rattle.std.specs.Prelude.{◌≡◌, ℕ, ◌+◌, ◌-◌, ◌*◌, ◌/◌, ◌%◌, ◌^◌, ◌<◌, ◌≤◌, ◌==◌, ◌↔◌, ◌⊎◌, true, List, [], ◌∷◌, Option, Some, None, All, Contains, slice_get, if◌then◌else◌}
use Rattle.polcert_cells.specs.declared.entries.Table.{Table}
use Rattle.polcert_cells.specs.declared.entries.Place.{Place}
use Rattle.polcert_cells.specs.declared.entries.Place.TheVariants.{Only}
use Rattle.polcert_cells.specs.declared.entries.Entry.{Entry}
use Rattle.polcert_cells.specs.Cells.{fits_place}
use Rattle.polcert_rules.specs.declared.index.Rule.{Rule}
use Rattle.polcert_rules.specs.Keys.{key_base, key_in, most_places}
use Rattle.polcert_rules.specs.Matching.{max_option}

-- a column that no row has: the last that has a digit
abbrev pub no_column : ℕ
no_column = key_base - 3

-- no place of a column is that one
abbrev pub HasNoSuchColumn : List Place → Type 0
HasNoSuchColumn (p ∷ q ∷ Only n ∷ ps) = n ≡ no_column → ⊥
HasNoSuchColumn _ = Unit {0}

abbrev pub HaveColumns : List Entry → Type 0
HaveColumns entries = All (λ (e : Entry). HasNoSuchColumn e.places) entries

-- the key of a single cell of the row at this action and state, in this column
pub record IsSingleCellKey (low action state column key : ℕ) : Type 0 where
  pub first : Place
  pub second : Place
  pub fits_action : fits_place first action ≡ true
  pub fits_state : fits_place second state ≡ true
  pub is : key ≡ key_in most_places low (first ∷ second ∷ Only column ∷ [])

-- the key names an action, a state and a column
pub record IsExactKey (key : ℕ) : Type 0 where
  pub action : 2 ≤ (key / key_base ^ 3) % key_base
  pub state : 2 ≤ (key / key_base ^ 2) % key_base
  pub column : 2 ≤ (key / key_base) % key_base
  pub known : (key / key_base) % key_base < no_column + 2

abbrev pub AreExact : List Rule → Type 0
AreExact rules = (r : Rule) → Contains rules r → IsExactKey r.key

-- a rule stands for an entry of the table that gives a single cell of each row that it concerns, in the rule's column
pub record IsSingleEntry (entries : List Entry) (table : Table) (r : Rule) : Type 0 where
  pub entry : Entry
  pub is : slice_get entries r.number ≡ Some entry
  pub of_table : entry.table ≡ table
  pub first : Place
  pub second : Place
  pub places : entry.places ≡ first ∷ second ∷ Only r.key ∷ []

-- the rules from `start` on whose keys are those of columns, by their columns
abbrev pub columns_of : ℕ → List Rule → List Rule
columns_of start [] = []
columns_of start (r ∷ rs) =
    if (r.key - start) % key_base == 0 then (record { key = (r.key - start) / key_base; number = r.number } ∷ columns_of start rs) else columns_of start rs

-- a cell is a rule, whose key is that of the cell's column
pub record IsColumnRule (rules : List Rule) (start : ℕ) (cell : Rule) : Type 0 where
  pub rule : Rule
  pub among : Contains rules rule
  pub key_is : rule.key ≡ start + cell.key * key_base
  pub column : cell.key + 2 < key_base
  pub number_is : rule.number ≡ cell.number

-- the first key of a table
abbrev pub IsTableKey : ℕ → Type 0
IsTableKey low = (d : ℕ) × (d ≤ 2) × (low ≡ d * key_base ^ most_places)

-- the key of the first column of a row, by the digits of its places
abbrev pub start_of : ℕ → ℕ → ℕ → ℕ
start_of low first second = low + first * key_base ^ 3 + second * key_base ^ 2 + 2 * key_base

-- after the old cells the new ones have those of each action or of each state in the row at this action and state
abbrev pub HasSharedColumns : List Rule → ℕ → ℕ → ℕ → List Rule → List Rule → Type 0
HasSharedColumns rules low action state old new =
    (x : Rule) → Contains new x ↔ (((Contains old x ⊎ IsColumnRule rules (start_of low 1 1) x) ⊎ IsColumnRule rules (start_of low 1 (state + 2)) x) ⊎ IsColumnRule rules (start_of low (action + 2) 1) x)

-- the same of a row
pub record IsCell (rules : List Rule) (low action state : ℕ) (cell : Rule) : Type 0 where
  pub rule : Rule
  pub among : Contains rules rule
  pub single : IsSingleCellKey low action state cell.key rule.key
  pub column : cell.key + 2 < key_base
  pub number_is : rule.number ≡ cell.number

-- the number that the cells have in a column
abbrev pub at_column : List Rule → ℕ → Option ℕ
at_column [] column = None
at_column (r ∷ rs) column = if r.key == column then Some r.number else at_column rs column

-- the number that a row has in a column: that of a cell, or of what covers the whole row, whichever is greater
abbrev pub number_in : Option ℕ → List Rule → ℕ → Option ℕ
number_in whole cells column = max_option whole (at_column cells column)
