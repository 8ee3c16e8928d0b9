use Rattle.std.proofs.Common.{◌≡◌, ◌∙◌, ◌<◌, List, ap, sym, subst, arith}
use Rattle.polcert_rules.proofs.Common.{Cell, weight_at, IsRow, stored_cells}
use Rattle.polcert_cells.specs.Sparse.{excepted_weight}
use Rattle.polcert_rules.proofs.RowLaws.EvenLaws.{filled_row, filled_sum, rising, within}
use Rattle.polcert_rules.specs.declared.rows.StoredRow.{StoredRow}
use Rattle.polcert_rules.specs.RowTables.{row_at}
use Rattle.polcert_rules.proofs.rows.Rows.row.Goals as goal

pub returns-in-Sparse : goal.returns-in-Sparse
returns-in-Sparse c =
    subst (λ r. IsRow c.args.self.now.columns (weight_at (row_at c.args.self.now c.args.action c.args.state))
    (stored_cells r)) c.in-Sparse.is
    (record { sparse = c.stored_row.ensures.sparse; each = λ k l. ap (λ xs. weight_at xs k) c.stored_row.ensures.row })

pub returns-in-Full : goal.returns-in-Full
returns-in-Full c =
    subst (λ r. IsRow c.args.self.now.columns (weight_at (row_at c.args.self.now c.args.action c.args.state))
    (stored_cells r)) c.in-Full.is
    (record { sparse = c.stored_row.ensures.sparse; each = λ k l. ap (λ xs. weight_at xs k) c.stored_row.ensures.row })

pub returns-in-Even : goal.returns-in-Even
returns-in-Even c =
    let xs = c.in-Even.exceptions.now in
    let n = c.in-Even.columns in
    let f = excepted_weight c.in-Even.weight xs in
    let stored = c.in-Even.ensures.stored in
    let scale = c.in-Even.ensures.proper in
    let size : n ≡ c.args.self.now.columns = omega (arith, scale, filled_sum f n, stored.proper) in
    record {
      size = size;
      small = stored.small;
      rising = rising 0 n xs stored.rise;
      within = within 0 n xs stored.rise;
      each = λ k l. sym ((filled_row f n).each k (subst (λ m. k < m) (sym size) l)) ∙ ap (λ ys. weight_at ys k) c.in-Even.ensures.row;
    }
