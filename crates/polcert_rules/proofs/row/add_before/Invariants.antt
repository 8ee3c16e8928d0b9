use Rattle.std.proofs.Common.{◌≡◌, ◌++◌, drop}
use Rattle.polcert_rules.proofs.Common.{before, following}
use Rattle.polcert_rules.proofs.row.add_before.Given as goal

abbrev pub invariant-loop-number : goal.invariant-loop-number
invariant-loop-number l =
    (l.cells.items ++ before l.column (drop l.number l.base) ≡ l.initial.cells.items ++ before l.column l.base)
    × (following l.column (drop l.number l.base) ≡ following l.column l.base)
