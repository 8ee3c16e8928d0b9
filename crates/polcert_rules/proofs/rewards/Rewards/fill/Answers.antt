use Rattle.std.proofs.Common.{None}
use Rattle.polcert_rules.proofs.Common.{get_or-replicate}
use Rattle.polcert_rules.proofs.rewards.Rewards.fill.Goals as goal

pub fill_noted-requires-clause-nothing : goal.fill_noted-requires-clause-nothing
fill_noted-requires-clause-nothing c = λ i. get_or-replicate 64 i None None
