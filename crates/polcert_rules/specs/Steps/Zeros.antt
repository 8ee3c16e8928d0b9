-- Single cells of weight 0. Nobody has to believe this file: only private functions cite it.
use Rattle.std.specs.Prelude.{◌≡◌, ℕ, ◌+◌, ◌-◌, ◌*◌, ◌^◌, ◌<◌, ◌≤◌, ◌==◌, ◌&&◌, ◌↔◌, ◌⊎◌, Bool, true, false, List, [], ◌∷◌, Option, Some, None, IfSome, All, Contains, length, slice_get, slice_index, if◌then◌else◌, ◌/◌, ◌%◌, nat_le, nat_lt, not}
use Rattle.std.specs.List.{filter}
use Rattle.polcert_cells.specs.declared.entries.Table.{Table}
use Rattle.polcert_cells.specs.declared.entries.Body.{Body}
use Rattle.polcert_cells.specs.declared.entries.Body.TheVariants.{Probabilities, Rewards, Uniform, Identity}
use Rattle.polcert_cells.specs.declared.entries.Entry.{Entry}
use Rattle.polcert_cells.specs.Cells.{value_or}
use Rattle.polcert_cells.specs.declared.elements.Cell.{Cell}
use Rattle.polcert_rules.specs.declared.index.Rule.{Rule}
use Rattle.polcert_rules.specs.declared.zeros.SplitRules.{SplitRules}
use Rattle.polcert_rules.specs.declared.zeros.Others.{Others}
use Rattle.polcert_rules.specs.declared.zeros.Others.TheVariants.{Borrowed, Listed}
use Rattle.polcert_rules.specs.declared.zeros.ZeroColumns.{ZeroColumns}
use Rattle.polcert_rules.specs.declared.zeros.ActionZeros.{ActionZeros}
use Rattle.polcert_rules.specs.declared.zeros.RowZeros.{RowZeros}
use Rattle.polcert_rules.specs.declared.row.ActionRules.{ActionRules}
use Rattle.polcert_rules.specs.declared.row.EntryRow.{EntryRow}
use Rattle.polcert_rules.specs.Keys.{key_base, table_key}
use Rattle.polcert_rules.specs.Steps.Newest.{IsRising, IsLastNumber}
use Rattle.polcert_rules.specs.Matching.{max_option, newest_by}
use Rattle.polcert_rules.specs.Steps.Merging.{is_newer}
use Rattle.polcert_rules.specs.Steps.Rows.{AreExact, IsSingleEntry, no_column, number_in, start_of}

-- ---- which rules are zeros
-- the body of an entry of this many places gives single cells the weight 0
abbrev pub gives_zero_in : ℕ → Body → Bool
gives_zero_in places (Probabilities ps) = places == 3 && slice_index ps 0 == 0
gives_zero_in places Uniform = false
gives_zero_in places Identity = false
gives_zero_in places (Rewards hs) = false

abbrev pub gives_zero : Entry → Bool
gives_zero entry = gives_zero_in (length entry.places) entry.body

-- the entry of this number gives single cells the weight 0
abbrev pub is_zero_entry : List Entry → ℕ → Bool
is_zero_entry entries number = value_or false gives_zero (slice_get entries number)

-- the key names an action and a state
abbrev pub names_row : ℕ → Bool
names_row key = nat_le 2 ((key / key_base ^ 2) % key_base) && nat_le 2 ((key / key_base ^ 3) % key_base)

-- the rule is a zero of each row of an action or of a state
abbrev pub is_shared_zero : List Entry → Rule → Bool
is_shared_zero entries r = not (names_row r.key) && is_zero_entry entries r.number

-- these zeros among the rules, and the others
abbrev pub zeros_of : List Entry → List Rule → List Rule
zeros_of entries [] = []
zeros_of entries (r ∷ rs) =
    if is_shared_zero entries r then (r ∷ zeros_of entries rs) else zeros_of entries rs

abbrev pub others_of : List Entry → List Rule → List Rule
others_of entries [] = []
others_of entries (r ∷ rs) =
    if is_shared_zero entries r then others_of entries rs else (r ∷ others_of entries rs)

-- the key names a column that a row may have
abbrev pub names_column : ℕ → Bool
names_column key = nat_le 2 ((key / key_base) % key_base) && nat_lt ((key / key_base) % key_base) (no_column + 2)

-- the rules that name no column
abbrev pub wholes_of : List Rule → List Rule
wholes_of rules = filter (λ r. not (names_column r.key)) rules

-- the others, lent or listed
abbrev pub others_in : Others → List Rule
others_in (Borrowed rules) = rules.now
others_in (Listed rules) = rules.items

-- each rule is in one of the two lists, and those of the first are zeros of several rows
pub record IsSplit (entries : List Entry) (rules : List Rule) (split : SplitRules) : Type 0 where
  pub zeros_rise : IsRising split.zeros.items
  pub others_rise : IsRising (others_in split.others)
  pub each : (r : Rule) → (Contains split.zeros.items r ⊎ Contains (others_in split.others) r) ↔ Contains rules r
  pub zero : (r : Rule) → Contains split.zeros.items r → is_zero_entry entries r.number ≡ true
  pub shared : (r : Rule) → Contains split.zeros.items r → names_row r.key ≡ false
  pub wholes : split.wholes.items ≡ wholes_of rules
  pub wholes_rise : IsRising split.wholes.items
  pub exact : split.is_exact ≡ true → AreExact rules

-- ---- the zeros of a row
-- the number of the rule with this key
abbrev pub at_key : List Rule → ℕ → Option ℕ
at_key rules key = newest_by (λ k. k == key) rules

abbrev pub zero_in : ZeroColumns → ℕ → Option ℕ
zero_in z column = at_key z.rules.now (z.start + column * key_base)

-- the number of the newest zero of a column
abbrev pub newest_zero : RowZeros → ℕ → Option ℕ
newest_zero z c =
    max_option (max_option (zero_in z.of_each.of_all c) (zero_in z.of_each.of_action c)) (zero_in z.of_state c)

abbrev pub zero_of : Option RowZeros → ℕ → Option ℕ
zero_of None c = None
zero_of (Some z) c = newest_zero z c

-- their keys rise, and have room
pub record IsOrdered (z : ZeroColumns) : Type 0 where
  pub rising : IsRising z.rules.now
  pub room : z.start + (key_base - 2) * key_base < 2 ^ 64

pub record HasOrderedZeros (z : RowZeros) : Type 0 where
  pub of_all : IsOrdered z.of_each.of_all
  pub of_action : IsOrdered z.of_each.of_action
  pub of_state : IsOrdered z.of_state

-- the rules from the key `start` on, as far as keys of columns go
pub record AreColumnsFrom (rules : List Rule) (start : ℕ) (z : ZeroColumns) : Type 0 where
  pub is : z.start ≡ start
  pub rising : IsRising z.rules.now
  pub kept : (r : Rule) → Contains z.rules.now r ↔ (Contains rules r × (start ≤ r.key) × (r.key < start + (key_base - 2) * key_base))

-- the zeros that all rows of an action share
pub record AreActionZeros (rules : List Rule) (low action : ℕ) (z : ActionZeros) : Type 0 where
  pub room : action + 2 < key_base
  pub of_all : AreColumnsFrom rules (start_of low 1 1) z.of_all
  pub of_action : AreColumnsFrom rules (start_of low (action + 2) 1) z.of_action

-- their rules are split, and the zeros are those of this table's action
pub record AreActionRules (entries : List Entry) (rules : List Rule) (r : ActionRules) : Type 0 where
  pub split : IsSplit entries rules r.split.now
  pub zeros : AreActionZeros r.split.now.zeros.items (table_key r.table) r.action r.zeros

-- ---- what lies under the cells above 0
-- what covers the whole row, or a zero that is newer
abbrev pub number_under : Option ℕ → Option RowZeros → ℕ → Option ℕ
number_under whole None c = whole
number_under whole (Some z) c = max_option whole (newest_zero z c)

abbrev pub covering_entry : EntryRow → ℕ → Option ℕ
covering_entry row c = number_under row.whole row.zeros c

-- a zero of this number hides what covers the whole row
abbrev pub overrides : Option ℕ → Option ℕ → Bool
overrides whole None = false
overrides whole (Some number) = is_newer whole number

-- the cells in columns that are not hidden
abbrev pub shown : (ℕ → Bool) → List Cell → List Cell
shown hidden [] = []
shown hidden (x ∷ xs) = if hidden x.column then shown hidden xs else (x ∷ shown hidden xs)

-- the cells of what covers the whole row that no newer zero hides
abbrev pub shown_under : Option ℕ → Option RowZeros → List Cell → List Cell
shown_under whole None base = base
shown_under whole (Some z) base = shown (λ c. overrides whole (newest_zero z c)) base

-- ---- a row, by the numbers of its entries
-- The cells are single cells of the table; and in each column the last entry that covers the cell is that of the greatest number
-- among what covers the whole row, the newest zero, and the cell.
pub record IsEntryRowOf (entries : List Entry) (table : Table) (a s : ℕ) (row : EntryRow) : Type 0 where
  pub rising : IsRising row.cells.rules.items
  pub ordered : IfSome row.zeros HasOrderedZeros
  pub single : All (IsSingleEntry entries table) row.cells.rules.items
  pub zeros : (c n : ℕ) → c < no_column → zero_of row.zeros c ≡ Some n → is_zero_entry entries n ≡ true
  pub whole : IsLastNumber entries table (a ∷ s ∷ no_column ∷ []) row.whole
  pub last : (c : ℕ) → c < no_column → IsLastNumber entries table (a ∷ s ∷ c ∷ []) (number_in (covering_entry row c) row.cells.rules.items c)
