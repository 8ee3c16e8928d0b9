use Rattle.polcert_existence.proofs.VectorAnswers as answers
use Rattle.polcert_existence.proofs.laws.every_text_is_action_vectors_or_refused.Goals as goal

pub returns : goal.returns
returns c = λ actions states text some_actions few_actions some few. answers.action_vectors_answer _ _ some_actions few_actions some few _
