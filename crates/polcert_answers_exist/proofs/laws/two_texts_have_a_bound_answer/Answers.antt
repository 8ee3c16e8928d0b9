use Rattle.polcert_answers_exist.proofs.OfTexts.{has_bound_answer}
use Rattle.polcert_answers_exist.proofs.laws.two_texts_have_a_bound_answer.Goals as goal

pub returns : goal.returns
returns c = has_bound_answer
