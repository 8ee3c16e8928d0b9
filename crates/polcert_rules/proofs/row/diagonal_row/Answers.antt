use Rattle.std.proofs.Common.{rules}
use Rattle.polcert_rules.proofs.row.diagonal_row.Goals as goal

pub returns : goal.returns
returns c = search rules
