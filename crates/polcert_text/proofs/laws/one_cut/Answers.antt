use Rattle.polcert_text.proofs.TextLaws as laws
use Rattle.polcert_text.proofs.laws.one_cut.Goals as goal

pub returns : goal.returns
returns c = laws.one_cut
