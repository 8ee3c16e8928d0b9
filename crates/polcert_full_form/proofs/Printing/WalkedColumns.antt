-- What is written of a column whose weight is 0, in each form.
use Rattle.std.proofs.Common.{◌≡◌, ℕ, ◌<◌, arith}
use Rattle.polcert_full_form.specs.declared.weight_row.WeightRow.{WeightRow}
use Rattle.polcert_full_form.specs.declared.weight_row.ColumnForm.{ColumnForm}
use Rattle.polcert_full_form.proofs.Common.{row_weights, column_text, zero_text}
use Rattle.polcert_full_form.proofs.Printing.WalkedRows.{zero_cell}

pub zero_column : (form : ColumnForm) (r : WeightRow) (c : ℕ) → c < r.columns → row_weights r c ≡ 0
    → zero_text form r c ≡ column_text form r c
zero_column form r c h1 h2 = grind (arith, zero_cell)
