-- Helper definitions of private functions: a walk over the columns of a row. Nobody has to believe them.
use Rattle.std.specs.Prelude.{◌≡◌, ℕ, ◌+◌, Option, Some, None}
use Rattle.polcert_cells.specs.BorrowedRows.{reached}
use Rattle.polcert_cells.specs.Cursors.{IsNext}
use Rattle.polcert_cells.specs.declared.cells.Row.{Row}
use Rattle.polcert_cells.specs.declared.cells.Step.{Step}

-- the step is to the first weight above 0 from this column on, or there is none
abbrev pub IsStepFrom : (ℕ → ℕ) → ℕ → Row → ℕ → Option Step → Type 0
IsStepFrom f count row column None = IsNext f count column None
IsStepFrom f count row column (Some step) = IsNext f count column (Some (step.column, step.weight)) × (reached (Some row) step.next ≡ step.column + 1)
