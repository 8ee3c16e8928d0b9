use Rattle.polcert_bound_answer.proofs.Earning.{texts_at_least, texts_at_most, texts_rewards_at_least, texts_rewards_at_most, texts_between}
use Rattle.polcert_bound_answer.proofs.Earning.{texts_optimal_to}
use Rattle.polcert_bound_answer.proofs.laws.texts_say_what_the_graph_earns.Goals as goal

pub returns : goal.returns
returns c = record {
  at_least = texts_at_least;
  at_most = texts_at_most;
  rewards_at_least = texts_rewards_at_least;
  rewards_at_most =
      texts_rewards_at_most;
  between = texts_between;
  optimal_to = texts_optimal_to;
}
