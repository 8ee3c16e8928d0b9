use Rattle.polcert_format.proofs.ReadLaws as laws
use Rattle.polcert_format.proofs.laws.one_first_wrong.Goals as goal

pub returns : goal.returns
returns c = laws.one_number
