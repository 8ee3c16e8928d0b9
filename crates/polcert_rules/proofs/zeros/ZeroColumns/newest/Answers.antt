use Rattle.polcert_rules.proofs.RowLaws.ZeroLaws.{found_at}
use Rattle.polcert_rules.proofs.zeros.ZeroColumns.newest.Goals as goal

pub first_at-requires-clause-from : goal.first_at-requires-clause-from
first_at-requires-clause-from c r among = ((c.rules_from.ensures.kept r).0 among).1

pub returns : goal.returns
returns c = found_at _ _ _ _ c.rules_from.ensures.kept c.first_at.ensures
