use Rattle.std.proofs.Common.{refl}
use Rattle.polcert_robust.proofs.known_rewards.known_reward_of.Goals as goal

pub returns-in-Some : goal.returns-in-Some
returns-in-Some g c = λ h is z l. c.constant.ensures.all h is _ _ _ (c.in-Some.ensures.row c.in-Some.row refl) z l
