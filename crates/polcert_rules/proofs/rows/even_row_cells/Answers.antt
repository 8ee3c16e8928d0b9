use Rattle.std.proofs.Common.{◌∙◌, ap}
use Rattle.polcert_cells.specs.Sparse.{excepted_weight}
use Rattle.polcert_rules.proofs.RowLaws.EvenLaws.{with_weight, without_weight, rising}
use Rattle.polcert_rules.proofs.rows.even_row_cells.Goals as goal
use Rattle.polcert_rules.proofs.rows.even_row_cells.Goals.{then-here-gt0+in_ok-push, else-here-gt0}

pub loop-column-preserved : goal.loop-column-preserved
loop-column-preserved c =
    let k = c.loop-column.column in
    let xs = c.args.exceptions.now in
    let f = excepted_weight c.args.weight xs in
    let old = c.loop-column.cells.items in
    let here = c.excepted_weight-here.ensures (rising 0 _ xs c.requires.rise) in
    elim c.if-here-gt0.branch [
      | then-here-gt0+in_ok-push w ↦ ap (λ v. v.items) w.cells-is ∙ w.in_ok-push.ensures.items
          ∙ with_weight f k _ old c.loop-column.invariant here w.if-here-gt0.true
      | else-here-gt0 w ↦ ap (λ v. v.items) w.cells-is ∙ without_weight f k _ old c.loop-column.invariant here w.if-here-gt0.false
    ]
