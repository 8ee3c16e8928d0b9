-- The index of the entries of a table, and what it finds.
use Rattle.std.specs.Prelude.{◌≡◌, ℕ, ◌+◌, ◌<◌, ◌≤◌, ◌==◌, List, [], ◌∷◌, length, take, drop, max, Option, Some, None, All, AllPairs, Contains, slice_get, true, if◌then◌else◌}
use Rattle.std.specs.List.Sorted.{IsNonDecreasingBy, IsPermutation}
use Rattle.polcert_cells.specs.declared.entries.Table.{Table}
use Rattle.polcert_cells.specs.declared.entries.Entry.{Entry}
use Rattle.polcert_cells.specs.Cells.{covers}
use Rattle.polcert_rules.specs.declared.index.Rule.{Rule}
use Rattle.polcert_rules.specs.Keys.{key_of, table_digit, AreDigits, most_places}

-- each key once, and the keys rise
abbrev pub IsRising : List Rule → Type 0
IsRising rules = AllPairs (λ x y. x.key < y.key) rules

-- this many rules in front have keys below this one, and the others have not
pub record IsKeyPartition (rules : List Rule) (key place : ℕ) : Type 0 where
  pub within : place ≤ length rules
  pub front : (r : Rule) → Contains (take place rules) r → r.key < key
  pub rest : (r : Rule) → Contains (drop place rules) r → key ≤ r.key

-- a rule is an entry of the table, by its number and its key
abbrev pub IsEntryRule : Table → List Entry → Rule → Type 0
IsEntryRule table entries r = (e : Entry) × (slice_get entries r.number ≡ Some e) × (key_of e ≡ r.key) × (e.table ≡ table) × AreDigits most_places e.places

-- Each rule is an entry of the table; and each entry of the table has a rule with its key, and a number as great.
pub record IsIndexOf (table : Table) (entries : List Entry) (rules : List Rule) : Type 0 where
  pub sound : (r : Rule) → Contains rules r → IsEntryRule table entries r
  pub complete : (n : ℕ) (e : Entry) → slice_get entries n ≡ Some e → e.table ≡ table → (r : Rule) × Contains rules r × (r.key ≡ key_of e) × (n ≤ r.number)

-- places that have a key
abbrev pub AreKeyed : List Entry → Type 0
AreKeyed entries = All (λ (e : Entry). AreDigits most_places e.places) entries

-- a rule for each entry of the table with this digit, where entries are numbered from here on
abbrev pub rules_from : ℕ → ℕ → List Entry → List Rule
rules_from digit number [] = []
rules_from digit number (e ∷ es) =
    if table_digit e.table == digit then (record { key = key_of e; number = number } ∷ rules_from digit (number + 1) es) else rules_from digit (number + 1) es

-- of neighbors with the same key the greatest number, where this rule stands in front
abbrev pub newest_from : Rule → List Rule → List Rule
newest_from last [] = last ∷ []
newest_from last (r ∷ rs) = if r.key == last.key then newest_from (record { key = last.key; number = max last.number r.number }) rs else (last ∷ newest_from r rs)

abbrev pub newest_of_each : List Rule → List Rule
newest_of_each [] = []
newest_of_each (r ∷ rs) = newest_from r rs

-- rules in the order of their keys, of those with the same key the newest
pub record AreSortedNewest (old new : List Rule) : Type 0 where
  pub sorted : List Rule
  pub permutation : IsPermutation old sorted
  pub ordered : IsNonDecreasingBy (λ (r : Rule). r.key) sorted
  pub is : new ≡ newest_of_each sorted

-- a rule whose key passes
pub record IsOneOf (rules : List Rule) (P : ℕ → Type 0) (number : ℕ) : Type 0 where
  pub rule : Rule
  pub among : Contains rules rule
  pub passes : P rule.key
  pub is : rule.number ≡ number

-- the greatest number of the rules whose keys pass
abbrev pub IsNewest : List Rule → (ℕ → Type 0) → Option ℕ → Type 0
IsNewest rules P None = (r : Rule) → Contains rules r → P r.key → ⊥
IsNewest rules P (Some n) = IsOneOf rules P n × ((r : Rule) → Contains rules r → P r.key → r.number ≤ n)

-- the entry of this number
abbrev pub entry_at : List Entry → Option ℕ → Option Entry
entry_at entries None = None
entry_at entries (Some n) = slice_get entries n

-- the number of the last entry that covers the cell
abbrev pub IsLastNumber : List Entry → Table → List ℕ → Option ℕ → Type 0
IsLastNumber entries table indices None = (k : ℕ) (x : Entry) → slice_get entries k ≡ Some x → covers table indices x ≡ true → ⊥
IsLastNumber entries table indices (Some n) =
    ((e : Entry) × (slice_get entries n ≡ Some e) × (covers table indices e ≡ true))
    × ((k : ℕ) (x : Entry) → slice_get entries k ≡ Some x → covers table indices x ≡ true → k ≤ n)
