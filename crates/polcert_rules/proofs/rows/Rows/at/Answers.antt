use Rattle.std.proofs.Common.{◌∙◌, List, sym, ap}
use Rattle.polcert_rules.proofs.Common.{Cell, weight_at, stored_cells}
use Rattle.polcert_cells.proofs.ScaledRows.{scaled_weight}
use Rattle.polcert_cells.specs.Sparse.{excepted_weight}
use Rattle.polcert_rules.proofs.RowLaws.EvenLaws.{filled_row, filled_beyond, rising}
use Rattle.polcert_rules.proofs.rows.Rows.at.Goals as goal

pub cell_weight-requires : goal.cell_weight-requires
cell_weight-requires c = (c.args.self.now.columns, rw c.in-Sparse.is at c.stored_row.ensures.sparse)

pub returns-in-Sparse : goal.returns-in-Sparse
returns-in-Sparse c =
    c.cell_weight.ensures ∙ ap (λ r. weight_at (stored_cells r) c.args.column) (sym c.in-Sparse.is)
    ∙ ap (λ ys. weight_at ys c.args.column) c.stored_row.ensures.row

pub returns-in-Full : goal.returns-in-Full
returns-in-Full c =
    c.full_weight.ensures ∙ sym (scaled_weight c.in-Full.columns c.in-Full.numbers.now c.args.column)
    ∙ ap (λ r. weight_at (stored_cells r) c.args.column) (sym c.in-Full.is)
    ∙ ap (λ ys. weight_at ys c.args.column) c.stored_row.ensures.row

pub returns-then-column-columns : goal.returns-then-column-columns
returns-then-column-columns c =
    let xs = c.in-Even.exceptions.now in
    c.excepted_weight.ensures (rising 0 _ xs c.in-Even.ensures.stored.rise)
    ∙ sym ((filled_row _ _).each c.args.column c.if-column-columns.true)
    ∙ ap (λ ys. weight_at ys c.args.column) c.in-Even.ensures.row

pub returns-else-column-columns : goal.returns-else-column-columns
returns-else-column-columns c =
    sym (filled_beyond (excepted_weight c.in-Even.weight c.in-Even.exceptions.now) _ _ c.if-column-columns.false)
    ∙ ap (λ ys. weight_at ys c.args.column) c.in-Even.ensures.row
