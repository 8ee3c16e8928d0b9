use Rattle.std.proofs.Common.{◌≡◌, ◌++◌, drop}
use Rattle.polcert_rules.proofs.Common.{scaled_cells}
use Rattle.polcert_rules.proofs.rows.cells_of.Given as goal

abbrev pub invariant-loop-column : goal.invariant-loop-column
invariant-loop-column l = l.cells.items ++ scaled_cells l.columns l.column (drop l.column l.numbers) ≡ scaled_cells l.columns 0 l.numbers
