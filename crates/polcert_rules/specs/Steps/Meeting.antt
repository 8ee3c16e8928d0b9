-- Entries that begin with places that fit an action and a state.
use Rattle.std.specs.Prelude.{ℕ, ◌&&◌, Bool, true, Option, Some, None, List, slice_get}
use Rattle.polcert_cells.specs.declared.entries.Table.{Table}
use Rattle.polcert_cells.specs.declared.entries.Place.{Place}
use Rattle.polcert_cells.specs.declared.entries.Entry.{Entry}
use Rattle.polcert_cells.specs.Cells.{fits_place, is_table}

abbrev pub fits_if : Option Place → ℕ → Bool
fits_if None index = true
fits_if (Some place) index = fits_place place index

-- the place of this number fits, if there is one
abbrev pub fits_at : List Place → ℕ → ℕ → Bool
fits_at places number index = fits_if (slice_get places number) index

-- the entry is one of the table, and its first two places fit the row
abbrev pub meets_row : Table → ℕ → ℕ → Entry → Bool
meets_row table a s entry = is_table entry.table table && fits_at entry.places 0 a && fits_at entry.places 1 s
