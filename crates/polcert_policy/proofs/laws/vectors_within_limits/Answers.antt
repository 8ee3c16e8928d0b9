use Rattle.polcert_policy.proofs.Common.{Down}
use Rattle.polcert_policy.proofs.FlatVectors.{parts_from}
use Rattle.polcert_policy.proofs.LimitLaws as laws
use Rattle.polcert_policy.proofs.laws.vectors_within_limits.Goals as goal

pub returns : goal.returns
returns c = record {
  counts = λ graph states text v is. (is.2.nodes_are, is.2.states_are);
  values = λ graph states text v is. laws.vector_values graph states is.0 v (parts_from Down graph states is.0 v is.2);
  proper = λ graph states text v some few some_states few_states is. laws.vectors_proper graph states is.0 v some few some_states few_states
      (parts_from Down graph states is.0 v is.2);
  either_way = λ rounding graph states text v some few some_states few_states is. (
    is.2.nodes_are,
    is.2.states_are,
    laws.vectors_proper graph states is.0 v some few some_states few_states
        (parts_from rounding graph states is.0 v is.2),
  );
}
