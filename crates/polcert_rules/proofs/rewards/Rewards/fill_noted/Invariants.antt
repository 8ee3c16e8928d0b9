use Rattle.polcert_rules.specs.Steps.RewardSearch.{AreFilled}
use Rattle.polcert_rules.proofs.rewards.Rewards.fill_noted.Given as goal

-- the rewards so far
abbrev pub invariant-loop-i : goal.invariant-loop-i
invariant-loop-i l = AreFilled l.self l.fn.at l.first l.i l.rewards
