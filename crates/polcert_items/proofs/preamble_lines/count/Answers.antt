use Rattle.std.proofs.Common.{arith}
use Rattle.polcert_items.proofs.ElementLaws.{count_stuck}
use Rattle.polcert_items.proofs.preamble_lines.count.Goals as goal

pub returns-in_default-clause-refused : goal.returns-in_default-clause-refused
returns-in_default-clause-refused c = grind (arith, count_stuck)
