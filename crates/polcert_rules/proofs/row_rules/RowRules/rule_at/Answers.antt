use Rattle.std.proofs.Common.{◌^◌, arith}
use Rattle.polcert_rules.proofs.Indexes.Newer.{newest_here}
use Rattle.polcert_rules.proofs.row_rules.RowRules.rule_at.Goals as goal

pub first_at-requires-clause-from : goal.first_at-requires-clause-from
first_at-requires-clause-from c r among = ((c.rules_after.ensures.kept r).0 among).1

pub returns : goal.returns
returns c = newest_here _ _ _ _ _ (omega arith) c.rules_after.ensures.kept c.first_at.ensures
