use Rattle.polcert_existence.proofs.VectorAnswers as answers
use Rattle.polcert_existence.proofs.laws.every_text_is_vectors_or_refused.Goals as goal

pub returns : goal.returns
returns c = λ rounding graph states text proper some few. answers.vectors_answer _ _ _ proper some few _
