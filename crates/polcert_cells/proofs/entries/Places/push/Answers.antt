use Rattle.std.proofs.Common.{arith}
use Rattle.std.proofs.lemmas.Grind.{common_steps}
use Rattle.polcert_cells.proofs.entries.Places.push.Goals as goal

pub returns : goal.returns
returns c = grind (arith, common_steps)
