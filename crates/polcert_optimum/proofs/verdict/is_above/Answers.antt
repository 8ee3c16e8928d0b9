use Rattle.std.proofs.Common.{rules}
use Rattle.polcert_optimum.proofs.verdict.is_above.Goals as goal

pub returns-clause-above : goal.returns-clause-above
returns-clause-above c = search rules

pub returns-clause-not_above : goal.returns-clause-not_above
returns-clause-not_above c = search rules
