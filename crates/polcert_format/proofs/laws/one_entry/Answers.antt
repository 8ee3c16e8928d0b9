use Rattle.polcert_cells.proofs.EntryLaws as laws
use Rattle.polcert_format.proofs.laws.one_entry.Goals as goal

pub returns : goal.returns
returns c = laws.one_entry
