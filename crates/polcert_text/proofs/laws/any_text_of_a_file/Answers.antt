use Rattle.polcert_text.proofs.Known.{unknown_text}
use Rattle.polcert_text.proofs.laws.any_text_of_a_file.Goals as goal

pub returns : goal.returns
returns c = unknown_text
