use Rattle.std.proofs.Common.{◌≡◌, ◌++◌, drop}
use Rattle.polcert_rules.proofs.Common.{others_of}
use Rattle.polcert_rules.proofs.zeros.others_of.Given as goal

abbrev pub invariant-loop-rule : goal.invariant-loop-rule
invariant-loop-rule l = l.others.items ++ others_of l.entries (drop l.rule-index l.rules) ≡ others_of l.entries l.rules
