use Rattle.polcert_text.proofs.Known.{unknown_taken}
use Rattle.polcert_text.proofs.laws.any_text_of_standard_output.Goals as goal

pub returns : goal.returns
returns g c = unknown_taken
