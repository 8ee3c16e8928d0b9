-- Helper definitions of private functions: rows of cells in one list. Nobody has to believe them.
use Rattle.std.specs.Prelude.{◌-◌, ◌≤◌, List, length, take, drop}
use Rattle.polcert_cells.specs.declared.elements.Cell.{Cell}
use Rattle.polcert_policy.specs.declared.weight_rows.RowPart.{RowPart}

-- whole rows, and one that is being filled
pub record FilledRows : Type 0 where
  pub rows : List (List Cell)
  pub row : List Cell

-- the part lies within the cells
pub record IsPartOf (cells : List Cell) (part : RowPart) : Type 0 where
  pub ordered : part.start ≤ part.end
  pub within : part.end ≤ length cells

abbrev pub cells_in_part : List Cell → RowPart → List Cell
cells_in_part cells part = take (part.end - part.start) (drop part.start cells)
