use Rattle.polcert_text.proofs.Known.{writer_took}
use Rattle.polcert_text.proofs.laws.bytes_of_a_writer.Goals as goal

pub returns : goal.returns
returns c = writer_took
