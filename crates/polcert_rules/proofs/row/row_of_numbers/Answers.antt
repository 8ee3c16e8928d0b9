use Rattle.std.proofs.Common.{ℕ, ◌≡◌, ◌∙◌, ◌+◌, ◌*◌, List, length, slice_index, ap, subst, sym, refl, arith}
use Rattle.polcert_rules.proofs.Common.{Cell, IsRow}
use Rattle.polcert_cells.proofs.SparseLaws.{row_push, row_skip}
use Rattle.polcert_rules.proofs.row.row_of_numbers.Goals as goal
use Rattle.polcert_rules.proofs.row.row_of_numbers.Goals.{then-weight-gt0+in_ok-push, else-weight-gt0}

pub loop-column-preserved : goal.loop-column-preserved
loop-column-preserved c =
    let k = c.loop-column.column in
    let xs = c.args.numbers.now in
    let f : ℕ → ℕ = λ i. slice_index xs i * length xs in
    let old = c.loop-column.cells.items in
    elim c.if-weight-gt0.branch [
      | then-weight-gt0+in_ok-push w ↦
          subst (λ (cells : List Cell). IsRow (k + 1) f cells) (sym (ap (λ v. v.items) w.cells-is ∙ w.in_ok-push.ensures.items))
          (row_push f k old (f k) c.loop-column.invariant refl w.if-weight-gt0.true)
      | else-weight-gt0 w ↦
          subst (λ (cells : List Cell). IsRow (k + 1) f cells) (sym (ap (λ v. v.items) w.cells-is))
          (row_skip f k (k + 1) old c.loop-column.invariant (omega arith)
          (λ i low high. let same : k ≡ i = omega arith in sym (ap f same) ∙ omega (arith, w.if-weight-gt0.false)))
    ]
