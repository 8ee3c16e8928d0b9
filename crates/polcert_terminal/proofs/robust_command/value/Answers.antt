use Rattle.std.proofs.Common.{rules}
use Rattle.polcert_terminal.proofs.robust_command.value.Goals as goal

pub returns-clause-rule : goal.returns-clause-rule
returns-clause-rule c = search rules
