use Rattle.std.proofs.Common.{◌≡◌, ◌+◌, drop}
use Rattle.polcert_rules.proofs.Common.{sum_of_weights}
use Rattle.polcert_rules.proofs.row_store.row_sum.Given as goal

abbrev pub invariant-loop-cell : goal.invariant-loop-cell
invariant-loop-cell l = l.sum + sum_of_weights (drop l.cell-index l.cells) ≡ sum_of_weights l.cells
