use Rattle.polcert_format.proofs.ItemLaws as laws
use Rattle.polcert_format.proofs.laws.one_division.Goals as goal

pub returns : goal.returns
returns c = record { some = laws.has_division; one = laws.one_division }
