use Rattle.std.proofs.Common.{rules}
use Rattle.polcert_text.proofs.number.floor_of.Goals as goal

pub returns-clause-value : goal.returns-clause-value
returns-clause-value c = search rules
