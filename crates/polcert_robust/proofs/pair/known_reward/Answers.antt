use Rattle.polcert_robust.proofs.pair.known_reward.Goals as goal

pub returns-then-is_some : goal.returns-then-is_some
returns-then-is_some g c = c.pair_reward-reward.ensures
