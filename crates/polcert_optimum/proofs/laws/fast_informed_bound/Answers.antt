use Rattle.polcert_optimum.proofs.Informed.{every_observation_policy, informed_only_then, of_one_vector, to_one_vector, of_qmdp}
use Rattle.polcert_optimum.proofs.laws.fast_informed_bound.Goals as goal

pub returns : goal.returns
returns c = record {
  policies = every_observation_policy;
  only_then = informed_only_then;
  one_vector = λ t value. (of_one_vector t value, to_one_vector t value);
  qmdp = of_qmdp;
}
