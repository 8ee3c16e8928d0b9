use Rattle.std.proofs.Common.{◌≡◌, ◌++◌, drop}
use Rattle.polcert_rules.proofs.Common.{newest_zero, overrides, shown}
use Rattle.polcert_rules.proofs.row.visible_cells.Given as goal

abbrev pub invariant-loop-cell : goal.invariant-loop-cell
invariant-loop-cell l =
    l.shown.items ++ shown (λ c. overrides l.whole (newest_zero l.zeros c)) (drop l.cell-index l.base)
    ≡ shown (λ c. overrides l.whole (newest_zero l.zeros c)) l.base
