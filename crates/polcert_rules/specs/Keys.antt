-- Keys: a number for each pattern, in the order of its places, so that the patterns that begin alike stand together.
-- Our own: the format says nothing about keys. Of these a reader of what a model keeps needs the base, and the key of a table.
use Rattle.std.specs.Prelude.{◌≡◌, ℕ, zero, suc, ◌+◌, ◌*◌, ◌^◌, ◌<◌, ◌≤◌, true, List, [], ◌∷◌}
use Rattle.polcert_cells.specs.declared.entries.Table.{Table}
use Rattle.polcert_cells.specs.declared.entries.Table.TheVariants.{Transition, Observation, Reward}
use Rattle.polcert_cells.specs.declared.entries.Place.{Place}
use Rattle.polcert_cells.specs.declared.entries.Place.TheVariants.{Every, Only}
use Rattle.polcert_cells.specs.declared.entries.Entry.{Entry}
use Rattle.polcert_cells.specs.Cells.{fit_places}
use Rattle.polcert_cells.specs.Elements.{most_actions, most_elements}

-- the base of the keys: each place is a digit to it
abbrev pub key_base : ℕ
key_base = 16_384

-- the most places that an entry has
abbrev pub most_places : ℕ
most_places = 4

-- What is needed of the base: each element of a kind has a digit, and so has one number more, which is no element's; and 64 bits
-- have room for the keys of the three tables, and for those of one more.
pub record IsKeyBase (base : ℕ) : Type 0 where
  pub actions : most_actions + 3 ≤ base
  pub elements : most_elements + 3 ≤ base
  pub room : 4 * base ^ most_places ≤ 2 ^ 64

-- a place as a digit: 0 stands for no place
abbrev pub digit : Place → ℕ
digit Every = 1
digit (Only n) = n + 2

-- the key of these places after those of the key `low`, where there is room for this many digits to the base
abbrev pub key_in : ℕ → ℕ → List Place → ℕ
key_in levels low [] = low
key_in zero low (p ∷ ps) = low
key_in (suc levels) low (p ∷ ps) = key_in levels (low + digit p * key_base ^ levels) ps

-- at most this many places, each a digit to the base
abbrev pub AreDigits : ℕ → List Place → Type 0
AreDigits levels [] = Unit {0}
AreDigits zero (p ∷ ps) = ⊥
AreDigits (suc levels) (p ∷ ps) = (digit p < key_base) × AreDigits levels ps

-- at most this many indices, whose places are digits
abbrev pub AreIndices : ℕ → List ℕ → Type 0
AreIndices levels [] = Unit {0}
AreIndices zero (i ∷ indices) = ⊥
AreIndices (suc levels) (i ∷ indices) = (i + 2 < key_base) × AreIndices levels indices

abbrev pub table_digit : Table → ℕ
table_digit Transition = 0
table_digit Observation = 1
table_digit Reward = 2

abbrev pub table_key : Table → ℕ
table_key table = table_digit table * key_base ^ most_places

-- the key of the pattern of an entry, its table in front
abbrev pub key_of : Entry → ℕ
key_of entry = key_in most_places (table_key entry.table) entry.places

-- The key is that of some places, after those of the key `low`, that fit the first of these indices.
pub record FitsKey (levels low : ℕ) (indices : List ℕ) (key : ℕ) : Type 0 where
  pub places : List Place
  pub fits : fit_places places indices ≡ true
  pub is : key ≡ key_in levels low places
