use Rattle.polcert_existence.proofs.GraphAnswers as answers
use Rattle.polcert_existence.proofs.laws.every_text_is_a_graph_or_refused.Goals as goal

pub returns : goal.returns
returns c = λ actions observations text some_actions some_observations. answers.graph_answer _ _ some_actions some_observations _
