use Rattle.std.proofs.Common.{arith}
use Rattle.std.proofs.lemmas.Int.{to_z-of_z}
use Rattle.polcert_check.proofs.shortfall.amount_short.Goals as goal

pub returns-clause-is : goal.returns-clause-is
returns-clause-is g c = grind (arith, to_z-of_z)

pub returns-clause-small : goal.returns-clause-small
returns-clause-small g c = grind (arith, to_z-of_z)
