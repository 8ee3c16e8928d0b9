use Rattle.std.proofs.Common.{rules}
use Rattle.polcert_items.proofs.model_so_far.ModelSoFar.cells_after.Goals as goal

pub returns-in-Reward-eq2 : goal.returns-in-Reward-eq2
returns-in-Reward-eq2 c = search rules
