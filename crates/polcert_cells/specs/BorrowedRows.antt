-- A row that is borrowed, and what its steps say of the weights.
use Rattle.std.specs.Prelude.{◌≡◌, ℕ, zero, suc, ◌+◌, ◌*◌, ◌<◌, ◌≤◌, List, [], ◌∷◌, Option, Some, None, length, slice_index, All}
use Rattle.polcert_cells.specs.declared.elements.Cell.{Cell}
use Rattle.polcert_cells.specs.declared.cells.Row.{Row}
use Rattle.polcert_cells.specs.declared.cells.Row.TheVariants.{Sparse, Filled, Scaled, Single, Even}
use Rattle.polcert_cells.specs.declared.cells.Step.{Step}
use Rattle.polcert_cells.specs.Sparse.{scaled_cells, IsRow, AreRising, excepted_weight}
use Rattle.polcert_cells.specs.Cursors.{IsNext}
use Rattle.polcert_cells.specs.Numbers.{one}

-- each weight of a list, 0 too
pub record AreWeights (f : ℕ → ℕ) (count : ℕ) (weights : List ℕ) : Type 0 where
  pub size : length weights ≡ count
  pub each : (c : ℕ) → c < count → slice_index weights c ≡ f c

-- all columns have the same weight but for exceptions, which are in order
pub record IsEvenRow (f : ℕ → ℕ) (count weight columns : ℕ) (exceptions : List Cell) : Type 0 where
  pub size : columns ≡ count
  pub small : weight ≤ one * columns
  pub rising : AreRising exceptions
  pub within : All (λ x. x.column < columns) exceptions
  pub each : (c : ℕ) → c < count → excepted_weight weight exceptions c ≡ f c

-- the row has these weights, of this many columns
abbrev pub IsRowOf : (ℕ → ℕ) → ℕ → Row → Type 0
IsRowOf f count (Sparse cells) = IsRow count f cells.now
IsRowOf f count (Filled weights) = AreWeights f count weights.now
IsRowOf f count (Scaled numbers scale) = IsRow count f (scaled_cells scale 0 numbers.now)
IsRowOf f count (Single cell) = IsRow count f (cell ∷ [])
IsRowOf f count (Even weight columns exceptions) = IsEvenRow f count weight columns exceptions.now

-- the column that is reached after the first cells: that after the last of them
abbrev pub after_cells : ℕ → List Cell → ℕ → ℕ
after_cells low cells zero = low
after_cells low [] (suc k) = low
after_cells low (x ∷ xs) (suc k) = after_cells (x.column + 1) xs k

-- the column that is reached at a place of a row, or where none is borrowed, of the columns
abbrev pub reached : Option Row → ℕ → ℕ
reached None at = at
reached (Some (Sparse cells)) at = after_cells 0 cells.now at
reached (Some (Filled weights)) at = at
reached (Some (Scaled numbers scale)) at = at
reached (Some (Single cell)) at = after_cells 0 (cell ∷ []) at
reached (Some (Even weight columns exceptions)) at = at

-- a step from a place of a row is to the next weight above 0, and names the place after it; or there is none
abbrev pub IsStep : (ℕ → ℕ) → ℕ → Option Row → ℕ → Option Step → Type 0
IsStep f count row at None = IsNext f count (reached row at) None
IsStep f count row at (Some step) = IsNext f count (reached row at) (Some (step.column, step.weight)) × (reached row step.next ≡ step.column + 1)
