use Rattle.std.proofs.Common.{◌∙◌, List, ap, sym, rules}
use Rattle.std.proofs.lemmas.Slice.Eq.{slice_eq-Decides}
use Rattle.polcert_cells.specs.Sparse.{excepted_weight}
use Rattle.polcert_rules.proofs.Common.{Cell, stored_cells}
use Rattle.polcert_rules.specs.Steps.Lists.{filled_cells}
use Rattle.polcert_rules.proofs.row_store.is_same_row.Goals as goal

pub returns-in-Sparse-Sparse : goal.returns-in-Sparse-Sparse
returns-in-Sparse-Sparse c t = ap stored_cells c.in-Sparse-Sparse.is-0 ∙ (slice_eq-Decides (λ a b. search rules) _ _ _ c.eq.ensures).0 t
    ∙ sym (ap stored_cells c.in-Sparse-Sparse.is-1)

pub returns-then-columns-other_columns : goal.returns-then-columns-other_columns
returns-then-columns-other_columns c t =
    let arm = c.in-Even-Even in
    ap stored_cells arm.is-0
    ∙ ap (λ k. filled_cells (excepted_weight k arm.exceptions.now) arm.columns) c.if-weight-other_weight.true
    ∙ ap (filled_cells (excepted_weight arm.other_weight arm.exceptions.now)) c.if-columns-other_columns.true
    ∙ ap (λ xs. filled_cells (excepted_weight arm.other_weight xs) arm.other_columns)
    ((slice_eq-Decides (λ a b. search rules) _ _ _ c.eq-then-columns-other_columns.ensures).0 t)
    ∙ sym (ap stored_cells arm.is-1)
