use Rattle.polcert_answers_exist.proofs.OfTexts.{has_answer}
use Rattle.polcert_answers_exist.proofs.laws.three_texts_have_an_answer.Goals as goal

pub returns : goal.returns
returns c = has_answer
