use Rattle.polcert_optimum.proofs.Randomised.{model_randomised, model_randomised_earn}
use Rattle.polcert_bound_answer.proofs.Common.{value_of}
use Rattle.polcert_bound_answer.proofs.Denoted.{counted, limited, table_proper}
use Rattle.polcert_bound_answer.proofs.laws.texts_bound_randomised_policies.Goals as goal

pub returns : goal.returns
returns c = record {
  start = λ model vectors answer d most is. model_randomised d.meaning (limited d) (table_proper d) d.values (counted d) (answer.1 d) most
      is;
  long_run = λ model vectors answer d less most is. model_randomised_earn d.meaning (limited d) (table_proper d) d.values (counted d)
      (answer.1 d) most less is;
}
