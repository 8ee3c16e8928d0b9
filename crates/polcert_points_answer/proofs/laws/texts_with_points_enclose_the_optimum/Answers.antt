use Rattle.polcert_points_answer.proofs.Enclosing.{no_policy_earns_more, texts_enclose_by_points, texts_optimal_by_points}
use Rattle.polcert_points_answer.proofs.laws.texts_with_points_enclose_the_optimum.Goals as goal

pub returns : goal.returns
returns c = record {
  optimum = λ model graph low high points below above c d less n worth most best is_worth is. texts_enclose_by_points model graph low high
      points below above c d less n worth most is_worth best is;
  upper = λ model high points above d less most is. no_policy_earns_more model high points above d less most is;
  optimal_to = λ model graph low high points below above c d less n worth most nl is_worth is. texts_optimal_by_points model graph low high
      points below above c d less n worth most is_worth nl is;
}
