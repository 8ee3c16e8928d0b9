use Rattle.std.proofs.Common.{rules}
use Rattle.polcert_cells.proofs.entries.Places.clear.Goals as goal

pub returns : goal.returns
returns c = search rules
