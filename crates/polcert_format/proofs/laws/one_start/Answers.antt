use Rattle.polcert_cells.proofs.StartLaws as laws
use Rattle.polcert_format.proofs.laws.one_start.Goals as goal

pub returns : goal.returns
returns c = laws.one_start
