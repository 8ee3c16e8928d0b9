use Rattle.polcert_text.proofs.Known.{reader_text}
use Rattle.polcert_text.proofs.laws.text_of_a_reader.Goals as goal

pub returns : goal.returns
returns c = reader_text
