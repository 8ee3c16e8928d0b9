use Rattle.std.proofs.Common.{rules}
use Rattle.polcert_full_form.proofs.print_rewards.written_reward.Goals as goal

pub returns-then-is_cost : goal.returns-then-is_cost
returns-then-is_cost c = search rules
