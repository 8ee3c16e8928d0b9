-- Rows that are kept once for many actions and states. Nobody has to believe this file: only private functions cite it.
use Rattle.std.specs.Prelude.{◌≡◌, ℕ, ◌+◌, ◌*◌, ◌<◌, ◌≤◌, ◌==◌, All, Bool, IfSome, true, List, [], ◌∷◌, ◌++◌, Option, Some, None, length, map, slice_get, slice_index, slice_index_or}
use Rattle.polcert_cells.specs.declared.entries.Table.{Table}
use Rattle.polcert_cells.specs.declared.entries.Place.{Place}
use Rattle.polcert_cells.specs.declared.entries.Body.{Body}
use Rattle.polcert_cells.specs.declared.entries.Body.TheVariants.{Probabilities, Rewards, Uniform, Identity}
use Rattle.polcert_cells.specs.declared.entries.Entry.{Entry}
use Rattle.polcert_cells.specs.Cells.{value_or, last_covering}
use Rattle.polcert_cells.specs.Numbers.{one}
use Rattle.polcert_cells.specs.Preamble.{Preamble}
use Rattle.polcert_cells.specs.Rows.{IsWeighted}
use Rattle.polcert_cells.specs.Meaning.{sum_below}
use Rattle.polcert_cells.specs.declared.elements.Cell.{Cell}
use Rattle.polcert_rules.specs.declared.index.Rule.{Rule}
use Rattle.polcert_rules.specs.declared.rows.Shape.{Shape}
use Rattle.polcert_rules.specs.declared.row_store.RowOrigin.{RowOrigin}
use Rattle.polcert_rules.specs.declared.row_store.RowOrigin.TheVariants.{Nothing, Even, Diagonal, Line}
use Rattle.polcert_rules.specs.declared.row_store.SharedRow.{SharedRow}
use Rattle.polcert_rules.specs.declared.row_store.RowStore.{RowStore}
use Rattle.polcert_rules.specs.declared.row_store.Near.{Near}
use Rattle.polcert_rules.specs.declared.rows.TableEntries.{TableEntries}
use Rattle.polcert_rules.specs.declared.rows.WrongRow.{WrongRow}
use Rattle.polcert_rules.specs.Steps.Newest.{IsRising, IsIndexOf, entry_at}
use Rattle.polcert_rules.specs.Steps.Shapes.{IsShapeOf, AreSound}
use Rattle.polcert_rules.specs.Steps.Rows.{number_in}
use Rattle.polcert_rules.specs.declared.row.EntryRow.{EntryRow}
use Rattle.polcert_rules.specs.Steps.Zeros.{HasOrderedZeros, IsSplit, is_zero_entry, zero_of, covering_entry}
use Rattle.polcert_rules.specs.Steps.Given.{FitsShape}
use Rattle.polcert_cells.specs.Sparse.{weight_at, IsSparse, IsRow}
use Rattle.polcert_rules.specs.Steps.Merging.{given_at, weight_by_entries}

-- ---- what a row is made of
-- the row of this state, where the entry of this number has these places and this body: all rows of `uniform` are
-- alike, whatever the entry, and so are those of one state of `identity`
abbrev pub origin_in : ℕ → List Place → Body → ℕ → RowOrigin
origin_in n (p ∷ []) (Probabilities ps) s = Line n s
origin_in n _ (Probabilities ps) s = Line n 0
origin_in n _ Identity s = Diagonal s
origin_in n _ Uniform s = Even
origin_in n _ (Rewards hs) s = Nothing

-- what a row without single cells is made of, by the number of the entry that covers the whole row
abbrev pub origin_of : List Entry → Option ℕ → ℕ → RowOrigin
origin_of entries None s = Nothing
origin_of entries (Some n) s = value_or Nothing (λ e. origin_in n e.places e.body s) (slice_get entries n)

-- the cells are each row that is made of this
abbrev pub IsFrom : ℕ → List Entry → RowOrigin → List Cell → Type 0
IsFrom columns entries source cells = (whole : Option ℕ) (s : ℕ) → origin_of entries whole s ≡ source → (c : ℕ) → c < columns → weight_at cells c ≡ given_at columns entries whole s c

-- ---- what the index says of a row
-- the entry of this number gives one number, within its limit
pub record IsNumberEntry (entries : List Entry) (number : ℕ) : Type 0 where
  pub entry : Entry
  pub is : slice_get entries number ≡ Some entry
  pub written : ℕ
  pub body : entry.body ≡ Probabilities (written ∷ [])
  pub small : written ≤ one
  pub places : length entry.places ≡ 3

-- a cell is a column, and a number
abbrev pub IsColumnOf : ℕ → List Entry → Rule → Type 0
IsColumnOf columns entries r = (r.key < columns) × IsNumberEntry entries r.number

-- what covers the whole row is an entry that fits the shape
abbrev pub IsWholeRowEntry : Shape → List Entry → Option ℕ → Type 0
IsWholeRowEntry shape entries None = Unit {0}
IsWholeRowEntry shape entries (Some n) = (e : Entry) × (slice_get entries n ≡ Some e) × FitsShape shape e

-- the numbers of a row: that of what covers the whole row, those of its single cells, and those of its zeros
pub record AreNumbersOf (shape : Shape) (entries : List Entry) (table : Table) (a s : ℕ) (row : EntryRow) : Type 0 where
  pub rising : IsRising row.cells.rules.items
  pub ordered : IfSome row.zeros HasOrderedZeros
  pub cells : All (IsColumnOf shape.columns entries) row.cells.rules.items
  pub zeros : (c n : ℕ) → c < shape.columns → zero_of row.zeros c ≡ Some n → is_zero_entry entries n ≡ true
  pub covering : IsWholeRowEntry shape entries row.whole
  pub last : (c : ℕ) → c < shape.columns → last_covering entries table (a ∷ s ∷ c ∷ []) ≡ entry_at entries (number_in (covering_entry row c) row.cells.rules.items c)
  pub small : (c : ℕ) → c < shape.columns → weight_by_entries shape.columns entries table a s c ≤ one * shape.columns

-- ---- rows as they are kept
-- the sum of the weights
abbrev pub sum_of_weights : List Cell → ℕ
sum_of_weights [] = 0
sum_of_weights (x ∷ xs) = x.weight + sum_of_weights xs

-- the cells of a row of this many columns sum to its scale
abbrev pub is_proper : ℕ → List Cell → Bool
is_proper columns cells = sum_of_weights cells == one * columns

-- the row of this number has these weights
pub record IsKeptRow (columns : ℕ) (weights : ℕ → ℕ) (rows : List (List Cell)) (number : ℕ) : Type 0 where
  pub row : List Cell
  pub is : slice_get rows number ≡ Some row
  pub each : (c : ℕ) → c < columns → weight_at row c ≡ weights c

-- a row is kept that is made of this
pub record IsSharedRow (columns : ℕ) (entries : List Entry) (rows : List (List Cell)) (x : SharedRow) : Type 0 where
  pub row : List Cell
  pub is : slice_get rows x.number ≡ Some row
  pub made : IsFrom columns entries x.source row

-- rows are sparse, it is known of each whether it is proper, and what one entry gives alone is kept
pub record AreKept (columns : ℕ) (entries : List Entry) (k : RowStore) : Type 0 where
  pub sparse : All (IsSparse columns) k.rows
  pub tested : k.proper.items ≡ map (is_proper columns) k.rows
  pub common : All (IsSharedRow columns entries k.rows) k.shared.items

-- the row that is made of this has this number
pub record IsShared (shared : List SharedRow) (source : RowOrigin) (number : ℕ) : Type 0 where
  pub place : ℕ
  pub is : slice_get shared place ≡ Some (record { source = source; number = number })

-- one row more is kept, after the others
pub record IsAfter (columns : ℕ) (cells : List Cell) (old new : RowStore) : Type 0 where
  pub rows_are : new.rows ≡ old.rows ++ cells ∷ []
  pub tests_are : new.proper.items ≡ old.proper.items ++ is_proper columns cells ∷ []
  pub common_are : new.shared.items ≡ old.shared.items

-- so is one with these weights
pub record IsRowAfter (columns : ℕ) (weights : ℕ → ℕ) (old new : RowStore) : Type 0 where
  pub cells : List Cell
  pub row : IsRow columns weights cells
  pub kept : IsAfter columns cells old new

-- each row stays where it is
abbrev pub Stays : List (List Cell) → List (List Cell) → Type 0
Stays old new = (n : ℕ) (row : List Cell) → slice_get old n ≡ Some row → slice_get new n ≡ Some row

-- the numbers of neighbors are those of rows
abbrev pub AreNear : List (List Cell) → Near → Type 0
AreNear rows near = All (λ n. n < length rows) near.here.now × All (λ n. n < length rows) near.before.now

-- a number of a row for each state
abbrev pub HasRows : ℕ → ℕ → List ℕ → Type 0
HasRows states size numbers = (length numbers ≡ states) × All (λ n. n < size) numbers

-- the rows of these numbers sum to their scale
abbrev pub HaveScale : Shape → List (List Cell) → List (List ℕ) → Type 0
HaveScale shape rows numbers = (a s : ℕ) → a < shape.actions → s < shape.states →
    sum_of_weights (slice_index_or rows (slice_index (slice_index_or numbers a []) s) []) ≡ one * shape.columns

-- ---- the rows of a table
-- sound entries, and what their index finds
pub record AreIndexedEntries (given : TableEntries) : Type 0 where
  pub weighted : IsWeighted given.table
  pub preamble : Preamble
  pub shape : IsShapeOf preamble given.table given.bodies.shape
  pub sound : AreSound preamble given.bodies.entries.now
  pub index : IsIndexOf given.table given.bodies.entries.now given.index.now
  pub split : IsSplit given.bodies.entries.now given.index.now given.split.now

-- the weights of a row
abbrev pub weights_at : TableEntries → ℕ → ℕ → ℕ → ℕ
weights_at given a s c = weight_by_entries given.bodies.shape.columns given.bodies.entries.now given.table a s c

-- they sum to the scale
abbrev pub HasScale : TableEntries → ℕ → ℕ → Type 0
HasScale given a s = sum_below (weights_at given a s) given.bodies.shape.columns ≡ one * given.bodies.shape.columns

-- the numbers of the rows of an action's first states
pub record AreLine (given : TableEntries) (a count : ℕ) (rows : List (List Cell)) (numbers : List ℕ) : Type 0 where
  pub size : length numbers ≡ count
  pub within : All (λ n. n < length rows) numbers
  pub each : (s : ℕ) → s < count → IsKeptRow given.bodies.shape.columns (weights_at given a s) rows (slice_index numbers s)
  pub proper : (s : ℕ) → s < count → HasScale given a s

-- the first row of an action that does not sum to its scale
pub record IsFirstWrongIn (given : TableEntries) (a : ℕ) (w : WrongRow) : Type 0 where
  pub table_is : w.table ≡ given.table
  pub action_is : w.action ≡ a
  pub state : w.row < given.bodies.shape.states
  pub wrong : HasScale given a w.row → ⊥
  pub before : (s : ℕ) → s < w.row → HasScale given a s

-- the numbers of the rows of the first actions
pub record AreLines (given : TableEntries) (count : ℕ) (rows : List (List Cell)) (numbers : List (List ℕ)) : Type 0 where
  pub size : length numbers ≡ count
  pub each : (a : ℕ) → a < count → AreLine given a given.bodies.shape.states rows (slice_index_or numbers a [])
