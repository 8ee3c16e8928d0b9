use Rattle.std.proofs.Common.{rules}
use Rattle.polcert_items.proofs.model_so_far.ModelSoFar.table_fault.Goals as goal

pub returns-in-Observation : goal.returns-in-Observation
returns-in-Observation c = search rules
