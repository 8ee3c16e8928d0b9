use Rattle.std.proofs.Common.{◌≡◌, ◌++◌, drop}
use Rattle.polcert_rules.proofs.Common.{columns_of}
use Rattle.polcert_rules.proofs.row.add_part.Given as goal

abbrev pub invariant-loop-rule : goal.invariant-loop-rule
invariant-loop-rule l =
    l.cells.items ++ columns_of l.start (drop l.rule-index l.part) ≡ l.initial.cells.items ++ columns_of l.start l.part
