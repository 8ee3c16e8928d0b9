use Rattle.polcert_items.proofs.CoveringLaws.{rewards_fit}
use Rattle.polcert_items.proofs.model_so_far.Sizes.count_reward_entry.Goals as goal

pub overflow_mul-self-3 : goal.overflow_mul-self-3
overflow_mul-self-3 c = rewards_fit c.args.self.actions c.args.self.states c.args.self.rewarded c.requires.actions c.requires.states
    c.requires.rewarded
