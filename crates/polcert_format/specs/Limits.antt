-- The limits of cells: how many pairs of a state and an observation there may be, and how much of a large table entries may
-- give. A table is large where it has more than `most_cells` cells; of any other, entries may give as much as they like.
-- Source: none of this is in the file format; the limits are our own.
use Rattle.std.specs.Prelude.{ℕ, ◌*◌, ◌<◌, ◌≤◌, Bool, ◌&&◌, List, [], ◌∷◌, nat_lt, if◌then◌else◌}
use Rattle.std.specs.List.{sum_by, count_by}
use Rattle.polcert_cells.specs.declared.entries.Table.{Table}
use Rattle.polcert_cells.specs.declared.entries.Table.TheVariants.{Transition, Observation, Reward}
use Rattle.polcert_cells.specs.declared.entries.Entry.{Entry}
use Rattle.polcert_cells.specs.declared.elements.Elements.{Elements}
use Rattle.polcert_cells.specs.Elements.{count_of, most_pairs}
use Rattle.polcert_cells.specs.Preamble.{Preamble, observed, dimensions}
use Rattle.polcert_cells.specs.Entry.{cells_in}
use Rattle.polcert_cells.specs.Cells.{is_table, covers, weight_of}
use Rattle.polcert_cells.specs.Meaning.{sum_below}

-- ---- the first limit, of the preamble

abbrev pub HasFewPairs : Preamble → Type 0
HasFewPairs p = count_of p.states * count_of (observed p) ≤ most_pairs

-- ---- the other two, of the entries

-- how many cells a table has that is not large
abbrev pub most_cells : ℕ
most_cells = 16_777_216

abbrev pub IsLarge : Preamble → Table → Type 0
IsLarge p table = most_cells < cells_in (dimensions p table)

-- of how many cells this is so, where each index runs over its elements
abbrev pub count_cells : List Elements → (List ℕ → Bool) → ℕ
count_cells [] is_so = if is_so [] then 1 else 0
count_cells (d ∷ ds) is_so = sum_below (λ i. count_cells ds (λ indices. is_so (i ∷ indices))) (count_of d)

-- the entry covers the cell, and gives it a weight above 0
abbrev pub gives_weight : Preamble → Table → Entry → List ℕ → Bool
gives_weight p table e indices = covers table indices e && nat_lt 0 (weight_of p indices e)

-- The cells of the table that entries cover with a weight above 0, added up over the entries: a cell counts once for each entry
-- that covers it.
abbrev pub covered : Preamble → Table → List Entry → ℕ
covered p table es = sum_by (λ e. count_cells (dimensions p table) (gives_weight p table e)) es

-- how many entries of rewards there may be where the table of rewards is large
abbrev pub most_reward_entries : ℕ
most_reward_entries = 1_048_576

pub record HasFewCells (p : Preamble) (es : List Entry) : Type 0 where
  pub transitions : IsLarge p Transition → covered p Transition es ≤ most_cells
  pub observations : IsLarge p Observation → covered p Observation es ≤ most_cells
  pub rewards : IsLarge p Reward → count_by (λ (e : Entry). is_table e.table Reward) es ≤ most_reward_entries
