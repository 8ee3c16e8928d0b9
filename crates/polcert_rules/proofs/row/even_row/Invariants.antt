use Rattle.polcert_rules.proofs.Common.{IsRow}
use Rattle.polcert_rules.proofs.row.even_row.Given as goal

abbrev pub invariant-loop-column : goal.invariant-loop-column
invariant-loop-column l = IsRow l.column (λ c. l.weight) l.cells.items
