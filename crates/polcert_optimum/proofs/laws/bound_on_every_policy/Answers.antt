use Rattle.polcert_optimum.proofs.EveryPolicy.{every_policy, every_mixture, only_then}
use Rattle.polcert_optimum.proofs.laws.bound_on_every_policy.Goals as goal

pub returns : goal.returns
returns c = record {
  policies = every_policy;
  mixtures = λ t value proper above. every_mixture t value (every_policy t value proper above);
  only_then = only_then;
}
