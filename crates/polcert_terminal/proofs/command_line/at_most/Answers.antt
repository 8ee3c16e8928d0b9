use Rattle.std.proofs.Common.{rules}
use Rattle.polcert_terminal.proofs.command_line.at_most.Goals as goal

pub returns-clause-rule : goal.returns-clause-rule
returns-clause-rule c = search rules
