-- Sparse rows: of a row of T or O the columns with a weight above 0.
use Rattle.std.specs.Prelude.{◌≡◌, ℕ, ◌+◌, ◌*◌, ◌<◌, ◌==◌, nat_lt, All, AllPairs, List, [], ◌∷◌, if◌then◌else◌}
use Rattle.polcert_cells.specs.declared.elements.Cell.{Cell}

-- the weight of a column, or 0 where it is not among the cells
abbrev pub weight_at : List Cell → ℕ → ℕ
weight_at [] column = 0
weight_at (x ∷ xs) column = if x.column == column then x.weight else weight_at xs column

-- the columns rise
abbrev pub AreRising : List Cell → Type 0
AreRising cells = AllPairs (λ x y. x.column < y.column) cells

-- Each column once, in order, and below this many; and each weight is above 0.
pub record IsSparse (columns : ℕ) (cells : List Cell) : Type 0 where
  pub rising : AreRising cells
  pub within : All (λ x. x.column < columns) cells
  pub some : All (λ x. 0 < x.weight) cells

-- The cells are the row with these weights, of this many columns.
pub record IsRow (columns : ℕ) (weights : ℕ → ℕ) (cells : List Cell) : Type 0 where
  pub sparse : IsSparse columns cells
  pub each : (c : ℕ) → c < columns → weight_at cells c ≡ weights c

-- The columns from this one on whose weights are these numbers times the scale, where that is above 0.
abbrev pub scaled_cells : ℕ → ℕ → List ℕ → List Cell
scaled_cells scale column [] = []
scaled_cells scale column (n ∷ ns) =
    if nat_lt 0 (n * scale) then (record { column = column; weight = n * scale } ∷ scaled_cells scale (column + 1) ns) else scaled_cells scale (column + 1) ns

-- the weight of a column where all have the same but for these
abbrev pub excepted_weight : ℕ → List Cell → ℕ → ℕ
excepted_weight weight [] column = weight
excepted_weight weight (x ∷ xs) column = if x.column == column then x.weight else excepted_weight weight xs column
