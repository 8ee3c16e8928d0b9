-- The rows that are kept, and the sums of those of O.
-- Nobody has to believe this file: no contract of `polcert_model` or above it rests on it.
use Rattle.std.specs.Prelude.{◌≡◌, ℕ, ◌*◌, ◌<◌, List}
use Rattle.polcert_cells.specs.declared.entries.Table.{Table}
use Rattle.polcert_cells.specs.declared.entries.Table.TheVariants.{Observation}
use Rattle.polcert_cells.specs.declared.entries.Entry.{Entry}
use Rattle.polcert_cells.specs.Elements.{count_of}
use Rattle.polcert_cells.specs.Numbers.{one}
use Rattle.polcert_cells.specs.Preamble.{Preamble, observed}
use Rattle.polcert_cells.specs.Meaning.{observation_weight, sum_below}
use Rattle.polcert_tables.specs.Kept.{Kept, kept_meaning}

-- the weights of a row, by column
abbrev pub row_of : Kept → Table → ℕ → ℕ → ℕ → ℕ
row_of k Observation action state column = (kept_meaning k).o action state column
row_of k _ action state column = (kept_meaning k).t action state column

-- each row of O that the entries give sums to its scale
abbrev pub AreProperObservations : Preamble → List Entry → Type 0
AreProperObservations p entries = (a e : ℕ) → a < count_of p.actions → e < count_of p.states → sum_below (observation_weight p entries a e) (count_of (observed p)) ≡ one * count_of (observed p)
