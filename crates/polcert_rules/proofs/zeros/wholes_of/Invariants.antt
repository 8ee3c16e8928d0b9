use Rattle.std.proofs.Common.{◌≡◌, ◌++◌, drop}
use Rattle.polcert_rules.proofs.Common.{wholes_of}
use Rattle.polcert_rules.proofs.zeros.wholes_of.Given as goal

abbrev pub invariant-loop-rule : goal.invariant-loop-rule
invariant-loop-rule l = l.wholes.items ++ wholes_of (drop l.rule-index l.rules) ≡ wholes_of l.rules
