use Rattle.std.proofs.Common.{◌*◌, length, slice_index}
use Rattle.polcert_rules.proofs.Common.{IsRow}
use Rattle.polcert_rules.proofs.row.row_of_numbers.Given as goal

abbrev pub invariant-loop-column : goal.invariant-loop-column
invariant-loop-column l = IsRow l.column (λ c. slice_index l.numbers c * length l.numbers) l.cells.items
