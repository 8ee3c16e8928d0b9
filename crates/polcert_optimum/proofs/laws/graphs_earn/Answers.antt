use Rattle.polcert_optimum.proofs.Earnings.{own_at_least, own_at_most, own_rewards_at_least, own_rewards_at_most, compared, optimal_to}
use Rattle.polcert_optimum.proofs.laws.graphs_earn.Goals as goal

pub returns : goal.returns
returns c = record {
  at_least = λ m graph low limits proper known fits passes less n worth nl. own_at_least m limits graph low proper known fits passes less n
      nl worth;
  at_most = λ m graph high limits proper known fits passes less n most nl. own_at_most m limits graph high proper known fits passes less n
      nl most;
  rewards_at_least = λ m graph low limits proper known fits passes n worth nl. own_rewards_at_least m limits graph low proper known fits
      passes n nl worth;
  rewards_at_most = λ m graph high limits proper known fits passes n most nl. own_rewards_at_most m limits graph high proper known fits
      passes n nl most;
  compared = compared;
  optimal_to = λ m graph low vectors limits proper known fits passes informed less n worth most nl is. optimal_to m limits graph low proper
      known fits passes less n nl worth is _ informed most;
}
