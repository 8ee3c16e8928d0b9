use Rattle.std.proofs.Common.{rules}
use Rattle.polcert_check.proofs.expected_reward.listed_reward.Goals as goal

pub returns-then-listed-place : goal.returns-then-listed-place
returns-then-listed-place c = search rules
