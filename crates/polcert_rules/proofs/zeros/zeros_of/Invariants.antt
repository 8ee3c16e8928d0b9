use Rattle.std.proofs.Common.{◌≡◌, ◌++◌, drop}
use Rattle.polcert_rules.proofs.Common.{zeros_of}
use Rattle.polcert_rules.proofs.zeros.zeros_of.Given as goal

abbrev pub invariant-loop-rule : goal.invariant-loop-rule
invariant-loop-rule l = l.zeros.items ++ zeros_of l.entries (drop l.rule-index l.rules) ≡ zeros_of l.entries l.rules
