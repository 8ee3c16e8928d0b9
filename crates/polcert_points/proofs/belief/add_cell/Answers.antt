use Rattle.std.proofs.Common.{◌≡◌, ◌+◌, arith}
use Rattle.std.proofs.lemmas.List.{take_more_set}
use Rattle.polcert_cells.proofs.SparseLaws.{cell_of, row_push, row_skip}
use Rattle.polcert_points.proofs.belief.add_cell.Goals as goal

pub returns-then-weight-eq0-clause-row : goal.returns-then-weight-eq0-clause-row
returns-then-weight-eq0-clause-row c = λ b is before.
    row_skip b c.args.state (c.args.state + 1) _ before (omega arith)
    (λ s l h. let e : s ≡ c.args.state = omega (arith, l, h) in rw e (omega (arith, is, c.if-weight-eq0.true)))

pub returns-clause-row : goal.returns-clause-row
returns-clause-row c = λ b is before.
    rw (take_more_set c.args.cells.now c.args.place (cell_of c.args.state c.args.weight) c.requires.room)
    (row_push b c.args.state _ c.args.weight before is (omega (arith, c.if-weight-eq0.false)))
