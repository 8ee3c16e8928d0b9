use Rattle.polcert_text.proofs.TextLaws as laws
use Rattle.polcert_text.proofs.laws.same_answer_again.Goals as goal

pub returns : goal.returns
returns c = record { refusal = laws.refusal_again; clean_end = laws.end_again }
