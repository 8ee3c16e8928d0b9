use Rattle.std.proofs.Common.{refl}
use Rattle.polcert_rules.proofs.row_rules.RowRules.rules_of_places.Goals as goal

pub invariant_of-result : goal.invariant_of-result
invariant_of-result c = record {
  rising = c.rules_after.ensures.rising;
  from = λ r among. ((c.rules_after.ensures.kept r).0 among).1;
  room = c.requires.room;
}

pub returns : goal.returns
returns c = record { low_is = refl; kept = c.rules_after.ensures.kept }
