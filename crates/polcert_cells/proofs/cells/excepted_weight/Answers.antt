use Rattle.std.proofs.Common.{◌∙◌, ltb, rules, sym, ap}
use Rattle.std.proofs.lemmas.List.Sorted.{IsPartitionPoint-from_clause}
use Rattle.polcert_cells.proofs.Common.{Cell}
use Rattle.polcert_cells.specs.Sparse.{excepted_weight}
use Rattle.polcert_cells.proofs.RowSteps.{found_at}
use Rattle.polcert_cells.proofs.EvenRows.{Cut, parted, excepted_here, excepted_next, excepted_last}
use Rattle.polcert_cells.proofs.cells.excepted_weight.Goals as goal

pub returns-then-cell-column : goal.returns-then-cell-column
returns-then-cell-column c = λ up.
    let found = c.in-Some.ensures.lookup in
    let here = found_at c.args.exceptions.now c.partition_point-place.result c.in-Some.cell.now found.3.0 found.3.1 in
    sym (ap (excepted_weight c.args.weight c.args.exceptions.now) (sym c.if-cell-column.true)
    ∙ excepted_here c.args.weight c.args.exceptions.now c.partition_point-place.result c.in-Some.cell.now up here)

pub returns-else-cell-column : goal.returns-else-cell-column
returns-else-cell-column c = λ up.
    let found = c.in-Some.ensures.lookup in
    let here = found_at c.args.exceptions.now c.partition_point-place.result c.in-Some.cell.now found.3.0 found.3.1 in
    let cut : Cut c.args.exceptions.now c.args.column c.partition_point-place.result =
    IsPartitionPoint-from_clause (λ (x : Cell). ltb x.column c.args.column) _ _ c.partition_point-place.ensures.partitioned
    (parted _ c.args.column up) (λ a r q k. search rules) in
    excepted_next c.args.weight c.args.exceptions.now c.args.column c.partition_point-place.result c.in-Some.cell.now up cut here
    c.if-cell-column.false

pub returns-in-None : goal.returns-in-None
returns-in-None c = λ up.
    let cut : Cut c.args.exceptions.now c.args.column c.partition_point-place.result =
    IsPartitionPoint-from_clause (λ (x : Cell). ltb x.column c.args.column) _ _ c.partition_point-place.ensures.partitioned
    (parted _ c.args.column up) (λ a r q k. search rules) in
    let none = c.in-None.ensures.lookup in
    excepted_last c.args.weight c.args.exceptions.now c.args.column c.partition_point-place.result cut none.3
