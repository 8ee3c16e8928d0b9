use Rattle.polcert_format.proofs.TextLaws as laws
use Rattle.polcert_format.proofs.laws.one_model.Goals as goal

pub returns : goal.returns
returns c = record { lexemes = laws.one_meaning; text = laws.one_model }
