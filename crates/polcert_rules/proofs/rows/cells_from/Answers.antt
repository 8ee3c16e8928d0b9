use Rattle.std.proofs.Common.{◌∙◌, ltb, rules, arith}
use Rattle.std.proofs.lemmas.List.{take_rest}
use Rattle.polcert_rules.proofs.Common.{IsPartitionPoint-from_clause, Cell}
use Rattle.polcert_rules.proofs.RowLaws.FromLaws.{parted, drop_is_from, full_up_to}
use Rattle.polcert_rules.proofs.rows.cells_from.Goals as goal

pub returns-then-stands_at_its_number : goal.returns-then-stands_at_its_number
returns-then-stands_at_its_number c =
    let xs = c.args.cells.now in
    let at = c.stands_at_its_number.ensures c.if-stands_at_its_number.true in
    take_rest xs _ ∙ full_up_to xs _ at.0 c.requires.1.rising at.1 at.2

pub returns : goal.returns
returns c =
    let xs = c.args.cells.now in
    let n = c.partition_point-start.result in
    let cut = IsPartitionPoint-from_clause (λ x. ltb x.column c.args.column) xs n c.partition_point-start.ensures.partitioned
    (parted xs _ c.requires.1.rising) (λ a r q k. search rules) in
    take_rest xs n ∙ drop_is_from xs n _ (λ i d l m. cut.0 i d (omega arith) l) cut.1
