use Rattle.std.proofs.Common.{◌≡◌, ◌∙◌, Some, None, List, ap, sym}
use Rattle.std.specs.List.{slice_get}
use Rattle.polcert_rules.proofs.Common.{Cell, from}
use Rattle.polcert_rules.proofs.RowLaws.FromLaws.{at_here, at_there, at_none}
use Rattle.polcert_rules.proofs.rows.cell_weight.Goals as goal

pub returns-then-cell-column : goal.returns-then-cell-column
returns-then-cell-column c =
    at_here c.requires.0 _ _ c.requires.1 _ (ap (λ (ys : List Cell). slice_get ys 0) (sym c.cells_from.ensures)
    ∙ sym c.in-Some.ensures.value) c.if-cell-column.true

pub returns-else-cell-column : goal.returns-else-cell-column
returns-else-cell-column c =
    at_there c.requires.0 _ _ c.requires.1 _ (ap (λ (ys : List Cell). slice_get ys 0) (sym c.cells_from.ensures)
    ∙ sym c.in-Some.ensures.value) c.if-cell-column.false

pub returns-in-None : goal.returns-in-None
returns-in-None c =
    at_none c.requires.0 _ _ c.requires.1 (ap (λ (ys : List Cell). slice_get ys 0) (sym c.cells_from.ensures) ∙ sym c.in-None.ensures.value)
