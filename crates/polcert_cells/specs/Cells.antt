-- Cells: what the entries together give at each index.
-- Source: the POMDP file format page at pomdp.org: a later entry holds in place of an earlier one. A cell that no
-- entry covers is 0. Our own is the scale: probabilities are kept as whole numbers: a row of n columns has the scale 1,000,000 * n, so that
-- `uniform`, which gives each column 1,000,000, is exactly one part in n.
use Rattle.std.specs.Prelude.{◌≡◌, ℕ, ◌+◌, ◌*◌, ◌==◌, Bool, true, false, ◌&&◌, List, [], ◌∷◌, ◌++◌, length, drop, reverse, get_or, ℤ, pos, neg_ℤ, Option, Some, None, unwrap_or, if◌then◌else◌}
use Rattle.std.specs.List.{find, list_any}
use Rattle.std.specs.Option.{option_map}
use Rattle.polcert_cells.specs.declared.entries.Table.{Table}
use Rattle.polcert_cells.specs.declared.entries.Table.TheVariants.{Transition, Observation, Reward}
use Rattle.polcert_cells.specs.Elements.{Elements}
use Rattle.polcert_cells.specs.Numbers.{one}
use Rattle.polcert_cells.specs.Preamble.{Preamble, dimensions, columns}
use Rattle.polcert_cells.specs.declared.entries.Place.{Place}
use Rattle.polcert_cells.specs.declared.entries.Place.TheVariants.{Every, Only}
use Rattle.polcert_cells.specs.declared.entries.Body.{Body}
use Rattle.polcert_cells.specs.declared.entries.Body.TheVariants.{Probabilities, Rewards, Uniform, Identity}
use Rattle.polcert_cells.specs.declared.entries.Entry.{Entry}
use Rattle.polcert_cells.specs.Entry.{cells_in}

abbrev pub fits_place : Place → ℕ → Bool
fits_place Every index = true
fits_place (Only n) index = n == index

-- the places written fit the first of the indices
abbrev pub fit_places : List Place → List ℕ → Bool
fit_places [] indices = true
fit_places (p ∷ ps) [] = false
fit_places (p ∷ ps) (i ∷ indices) = fits_place p i && fit_places ps indices

abbrev pub is_table : Table → Table → Bool
is_table Transition Transition = true
is_table Observation Observation = true
is_table Reward Reward = true
is_table _ _ = false

abbrev pub covers : Table → List ℕ → Entry → Bool
covers table indices entry = is_table entry.table table && fit_places entry.places indices

-- From the end of the file backwards, the first entry that covers the cell.
abbrev pub last_covering : List Entry → Table → List ℕ → Option Entry
last_covering entries table indices = find (covers table indices) (reverse entries)

-- the number of the cell at these indices, where cells are numbered row after row
abbrev pub row_major : List Elements → List ℕ → ℕ
row_major (d ∷ ds) (i ∷ indices) = i * cells_in ds + row_major ds indices
row_major _ _ = 0

abbrev pub on_diagonal : List ℕ → Bool
on_diagonal (s ∷ e ∷ []) = s == e
on_diagonal _ = false

-- A probability of p millionths weighs p times the number of columns. `uniform` gives each column the same.
abbrev pub weight_in : ℕ → Body → List Elements → List ℕ → ℕ
weight_in columns (Probabilities ps) ds indices = get_or ps (row_major ds indices) 0 * columns
weight_in columns Uniform ds indices = one
weight_in columns Identity ds indices = if on_diagonal indices then one * columns else 0
weight_in columns (Rewards hs) ds indices = 0

-- a reward is worth what is written, or minus that where costs are written
abbrev pub reward_in : Bool → Body → List Elements → List ℕ → ℤ
reward_in costs (Rewards hs) ds indices = if costs then neg_ℤ (get_or hs (row_major ds indices) (pos 0)) else get_or hs (row_major ds indices) (pos 0)
reward_in costs _ ds indices = pos 0

-- what the entry gives a cell that it covers: its body is read by the indices that its places leave open
abbrev pub weight_of : Preamble → List ℕ → Entry → ℕ
weight_of p indices entry =
    weight_in (columns p entry.table) entry.body (drop (length entry.places) (dimensions p entry.table)) (drop (length entry.places) indices)

abbrev pub reward_of : Preamble → List ℕ → Entry → ℤ
reward_of p indices entry =
    reward_in p.costs entry.body (drop (length entry.places) (dimensions p entry.table)) (drop (length entry.places) indices)

-- the weight of a cell: what the last entry that covers it gives, or 0
abbrev pub weight : Preamble → List Entry → Table → List ℕ → ℕ
weight p entries table indices = unwrap_or (option_map (weight_of p indices) (last_covering entries table indices)) 0

-- the reward of a cell, likewise
abbrev pub reward : Preamble → List Entry → List ℕ → ℤ
reward p entries indices = unwrap_or (option_map (reward_of p indices) (last_covering entries Reward indices)) (pos 0)

-- This entry is the last that covers the cell, or none does.
pub data IsLastCovering (entries : List Entry) (table : Table) (indices : List ℕ) : Option Entry → Type 0 where
  last : (before : List Entry) (entry : Entry) (after : List Entry) → entries ≡ before ++ entry ∷ after → covers table indices entry ≡ true
      → list_any (covers table indices) after ≡ false → IsLastCovering entries table indices (Some entry)
  none : list_any (covers table indices) entries ≡ false → IsLastCovering entries table indices None

-- what is given by what was found, or this if nothing was
abbrev pub value_or : {V : Type 0} → V → (Entry → V) → Option Entry → V
value_or nothing value found = unwrap_or (option_map value found) nothing
