use Rattle.std.proofs.Common.{rules}
use Rattle.polcert_terminal.proofs.command_line.has_at_most.Goals as goal

pub returns-in_default : goal.returns-in_default
returns-in_default c = search rules
