use Rattle.std.proofs.Common.{rules}
use Rattle.polcert_policy.proofs.graph.successor_of.Goals as goal

pub returns-in-Minus : goal.returns-in-Minus
returns-in-Minus c = search rules
