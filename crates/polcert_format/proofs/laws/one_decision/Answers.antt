use Rattle.polcert_format.proofs.DecidedLaws as laws
use Rattle.polcert_format.proofs.laws.one_decision.Goals as goal

pub returns : goal.returns
returns c = record { one = laws.one_decided; nothing = laws.nothing_decided }
