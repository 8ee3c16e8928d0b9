use Rattle.std.proofs.Common.{arith}
use Rattle.polcert_rules.proofs.RowLaws.MergeLaws.{over_none}
use Rattle.polcert_rules.proofs.row.put_over.Goals as goal

pub returns-then-are_positive : goal.returns-then-are_positive
returns-then-are_positive c = grind (arith, over_none)
