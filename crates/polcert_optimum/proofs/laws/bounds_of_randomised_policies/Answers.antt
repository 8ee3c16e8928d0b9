use Rattle.polcert_optimum.proofs.Randomised.{every_randomised_policy, model_randomised, model_randomised_earn}
use Rattle.polcert_optimum.proofs.laws.bounds_of_randomised_policies.Goals as goal

pub returns : goal.returns
returns c = record {
  each = λ t vectors p. every_randomised_policy t p _;
  start = λ m v most limits p same informed. model_randomised m limits p v same informed most;
  long_run = λ m v most limits p same informed. model_randomised_earn m limits p v same informed most;
}
