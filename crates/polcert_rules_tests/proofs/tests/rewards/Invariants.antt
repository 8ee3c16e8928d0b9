use Rattle.polcert_rules.specs.Steps.Newest.{AreKeyed}
use Rattle.polcert_rules_tests.proofs.tests.rewards.Given as goal

abbrev pub invariant-loop-pattern : goal.invariant-loop-pattern
invariant-loop-pattern l = AreKeyed l.entries
