use Rattle.polcert_answers_exist.proofs.OfTexts.{has_answer_above}
use Rattle.polcert_answers_exist.proofs.laws.three_texts_have_an_answer_above.Goals as goal

pub returns : goal.returns
returns c = has_answer_above
