use Rattle.polcert_optimum.proofs.Optimum.{encloses, earns_at_most, every_policy_earns_at_most}
use Rattle.polcert_optimum.proofs.Start.{from_start, informed_from_start}
use Rattle.polcert_optimum.proofs.laws.optimum_is_enclosed.Goals as goal

pub returns : goal.returns
returns c = record {
  both = λ m graph low vectors limits proper known fits passes informed less n worth most nl is. encloses m limits graph low proper known
      fits passes less n nl worth is _ informed most;
  upper = λ m vectors most limits proper informed mean less. earns_at_most m vectors most less
      (informed_from_start m limits _ proper informed most mean);
  seen = λ m value most limits proper above mean less. every_policy_earns_at_most m value most less
      (from_start m limits value proper above most mean);
}
