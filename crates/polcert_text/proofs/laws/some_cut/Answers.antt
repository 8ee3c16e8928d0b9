use Rattle.polcert_text.proofs.Scanning.SomeCut as cuts
use Rattle.polcert_text.proofs.laws.some_cut.Goals as goal

pub returns : goal.returns
returns c = cuts.some_cut
