use Rattle.polcert_rules.specs.Keys.{AreDigits, most_places}
use Rattle.polcert_rules_tests.proofs.tests.places.Given as goal

abbrev pub invariant-loop-element : goal.invariant-loop-element
invariant-loop-element l = AreDigits most_places l.places
