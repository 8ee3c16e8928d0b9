use Rattle.polcert_tables.proofs.dense.constant_reward.Goals as goal

pub returns-in-Some : goal.returns-in-Some
returns-in-Some c = λ h is z l. c.constant.ensures.all h is _ _ _ (c.find_rewards.ensures.row c.in-Some.row c.in-Some.is) z l
