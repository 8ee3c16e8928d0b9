use Rattle.polcert_format.proofs.LimitLaws as laws
use Rattle.polcert_format.proofs.laws.within_limits.Goals as goal

pub returns : goal.returns
returns c = laws.within_limits
