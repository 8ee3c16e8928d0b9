use Rattle.std.proofs.Common.{rules}
use Rattle.polcert_cells.proofs.entries.Body.as_ref.Goals as goal

pub returns-in-Uniform : goal.returns-in-Uniform
returns-in-Uniform c = search rules
