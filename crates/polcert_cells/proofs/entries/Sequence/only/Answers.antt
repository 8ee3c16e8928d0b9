use Rattle.std.proofs.Common.{rules}
use Rattle.polcert_cells.proofs.entries.Sequence.only.Goals as goal

pub returns : goal.returns
returns g c = search rules
