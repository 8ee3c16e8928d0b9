use Rattle.polcert_optimum.proofs.Start.{from_start, informed_from_start, mixtures_from_start}
use Rattle.polcert_optimum.proofs.laws.bounds_from_the_start.Goals as goal

pub returns : goal.returns
returns c = record {
  policies = λ m value most limits proper above. from_start m limits value proper above most;
  observation_policies = λ m vectors most limits proper informed. informed_from_start m limits _ proper informed most;
  mixtures = λ m vectors most limits proper informed mean. mixtures_from_start m vectors most
      (informed_from_start m limits _ proper informed most mean);
}
