use Rattle.std.proofs.Common.{rules}
use Rattle.polcert_policy.proofs.graph_reading.GraphReading.action_of.Goals as goal

pub returns-else-action-self : goal.returns-else-action-self
returns-else-action-self c = search rules
