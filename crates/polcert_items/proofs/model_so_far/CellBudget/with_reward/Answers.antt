use Rattle.polcert_items.proofs.CoveringLaws.{reward_more}
use Rattle.polcert_items.proofs.model_so_far.CellBudget.with_reward.Goals as goal

pub returns : goal.returns
returns c = λ p es e covering is. reward_more p es c.args.self e c.requires covering is
