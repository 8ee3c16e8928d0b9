use Rattle.std.proofs.Common.{◌≡◌, ◌++◌, drop}
use Rattle.polcert_rules.proofs.Common.{merged}
use Rattle.polcert_rules.proofs.row.merge_cells.Given as goal

abbrev pub invariant-loop-cell : goal.invariant-loop-cell
invariant-loop-cell l = l.cells.items ++ merged l.rest (drop l.cell-index l.newer) ≡ merged l.base l.newer
