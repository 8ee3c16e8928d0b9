use Rattle.std.proofs.Common.{◌≤◌}
use Rattle.polcert_rules.proofs.index.count_of_table.Given as goal

abbrev pub invariant-loop-number : goal.invariant-loop-number
invariant-loop-number l = l.count ≤ l.number
