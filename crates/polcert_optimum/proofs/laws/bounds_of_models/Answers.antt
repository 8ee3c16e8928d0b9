use Rattle.polcert_optimum.proofs.Mixtures.{model_mixtures_earn}
use Rattle.polcert_optimum.proofs.SeenModels.{model_policies, model_mixtures, same_bound_most}
use Rattle.polcert_optimum.proofs.laws.bounds_of_models.Goals as goal

pub returns : goal.returns
returns c = record {
  policies = λ m vectors most limits proper same. model_policies m _ same most limits proper;
  mixtures = λ m vectors most limits proper same. model_mixtures m _ same most limits proper;
  mixtures_earn = λ m vectors most limits proper same informed. model_mixtures_earn m limits proper _ same informed most;
  same = same_bound_most;
}
