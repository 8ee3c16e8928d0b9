use Rattle.polcert_format.proofs.ReadLaws as laws
use Rattle.polcert_format.proofs.laws.first_wrong_is_not_right.Goals as goal

pub returns : goal.returns
returns c = laws.not_taken
