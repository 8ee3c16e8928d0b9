use Rattle.polcert_optimum.proofs.Seen.{seen_earns_at_most, encloses_seen}
use Rattle.polcert_optimum.proofs.laws.optimum_where_the_start_is_seen.Goals as goal

pub returns : goal.returns
returns c = record {
  upper = λ m vectors most limits proper informed. seen_earns_at_most m limits vectors proper informed most;
  both = λ m graph low vectors limits proper known fits passes informed less n worth most nl is. encloses_seen m limits graph low proper
      known fits passes less n nl worth is vectors informed most;
}
