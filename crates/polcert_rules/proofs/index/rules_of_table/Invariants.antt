use Rattle.std.proofs.Common.{◌≡◌, ◌++◌, drop}
use Rattle.polcert_rules.proofs.Common.{rules_from}
use Rattle.polcert_rules.specs.Keys.{table_digit}
use Rattle.polcert_rules.proofs.index.rules_of_table.Given as goal

abbrev pub invariant-loop-number : goal.invariant-loop-number
invariant-loop-number l =
    l.rules.items ++ rules_from (table_digit l.table) l.number (drop l.number l.entries) ≡ rules_from (table_digit l.table) 0 l.entries
