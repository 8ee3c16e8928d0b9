use Rattle.std.proofs.Common.{rules}
use Rattle.polcert_policy.proofs.graph_reading.GraphReading.check_number.Goals as goal

pub returns-then-self-eq-MOST_NODES : goal.returns-then-self-eq-MOST_NODES
returns-then-self-eq-MOST_NODES c = search rules

pub returns-else-number-self : goal.returns-else-number-self
returns-else-number-self c = search rules
