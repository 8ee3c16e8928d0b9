-- A walk over all columns of a row.
use Rattle.std.proofs.Common.{◌≡◌, ℕ, Option, Some, None, subst, arith}
use Rattle.polcert_cells.specs.BorrowedRows.{IsStep, reached}
use Rattle.polcert_cells.specs.Cursors.{IsNext}
use Rattle.polcert_cells.specs.declared.cells.Row.{Row}
use Rattle.polcert_cells.specs.declared.cells.Step.{Step}
use Rattle.polcert_points_form.specs.Steps.RowWalk.{IsStepFrom}

-- at its first place nothing of a row is reached
pub start_of_row : (row : Row) → reached (Some row) 0 ≡ 0
start_of_row row = grind arith

pub step_from : (f : ℕ → ℕ) (count : ℕ) (row : Row) (at column : ℕ) (step : Option Step) → reached (Some row) at ≡ column
    → IsStep f count (Some row) at step → IsStepFrom f count row column step
step_from f count row at column None is h = subst (λ (n : ℕ). IsNext f count n None) is h
step_from f count row at column (Some step) is h = (subst (λ (n : ℕ). IsNext f count n (Some (step.column, step.weight))) is h.0, h.1)
