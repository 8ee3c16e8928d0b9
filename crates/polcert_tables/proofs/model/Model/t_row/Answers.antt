use Rattle.std.proofs.Common.{rules}
use Rattle.polcert_tables.proofs.model.Model.t_row.Goals as goal

pub returns : goal.returns
returns c = search rules
