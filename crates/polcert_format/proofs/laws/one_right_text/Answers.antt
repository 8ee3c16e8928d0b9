use Rattle.polcert_format.proofs.TextLaws as texts
use Rattle.polcert_format.proofs.laws.one_right_text.Goals as goal

pub returns : goal.returns
returns c = texts.one_right_text
