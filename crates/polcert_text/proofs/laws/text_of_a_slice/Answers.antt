use Rattle.polcert_text.proofs.Known.{slice_text}
use Rattle.polcert_text.proofs.laws.text_of_a_slice.Goals as goal

pub returns : goal.returns
returns c = slice_text
