use Rattle.std.proofs.Common.{ℕ, ◌+◌, List, subst, sym, refl, arith}
use Rattle.polcert_rules.proofs.Common.{Cell, IsRow}
use Rattle.polcert_cells.proofs.SparseLaws.{row_push}
use Rattle.polcert_rules.proofs.row.even_row.Goals as goal

pub loop-column-preserved : goal.loop-column-preserved
loop-column-preserved c =
    let k = c.loop-column.column in
    let w = c.args.weight in
    subst (λ xs. IsRow (k + 1) (λ i. w) xs) (sym c.in_ok-push.ensures.items)
    (row_push (λ i. w) k _ w c.loop-column.invariant refl (omega arith))
