use Rattle.std.proofs.Common.{rules}
use Rattle.polcert_items.proofs.model_so_far.ModelSoFar.is_late.Goals as goal

pub returns-in-Start : goal.returns-in-Start
returns-in-Start c = search rules
