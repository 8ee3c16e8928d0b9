use Rattle.std.proofs.Common.{take}
use Rattle.polcert_rules.specs.Steps.Rows.{AreExact}
use Rattle.polcert_rules.proofs.zeros.are_exact.Given as goal

abbrev pub invariant-loop-rule : goal.invariant-loop-rule
invariant-loop-rule l = AreExact (take l.rule-index l.rules)
