use Rattle.std.proofs.Common.{arith}
use Rattle.std.proofs.lemmas.Grind.{common_steps}
use Rattle.polcert_items.proofs.model_so_far.is_single_cell.Goals as goal

pub returns-in-Reward : goal.returns-in-Reward
returns-in-Reward c = grind (arith, common_steps)
