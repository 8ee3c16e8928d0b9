use Rattle.polcert_format.proofs.RefusalLaws as laws
use Rattle.polcert_format.proofs.laws.refused_is_not_accepted.Goals as goal

pub returns : goal.returns
returns c = laws.not_accepted
