use Rattle.std.proofs.Common.{◌≡◌}
use Rattle.polcert_cells.specs.Sparse.{excepted_weight}
use Rattle.polcert_rules.specs.Steps.Lists.{filled_cells}
use Rattle.polcert_rules.proofs.rows.even_row_cells.Given as goal

abbrev pub invariant-loop-column : goal.invariant-loop-column
invariant-loop-column l = l.cells.items ≡ filled_cells (excepted_weight l.weight l.exceptions) l.column
