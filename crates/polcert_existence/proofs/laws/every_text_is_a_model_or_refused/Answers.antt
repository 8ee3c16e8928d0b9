use Rattle.polcert_existence.proofs.ModelAnswers as answers
use Rattle.polcert_existence.proofs.laws.every_text_is_a_model_or_refused.Goals as goal

pub returns : goal.returns
returns c = answers.model_answer
