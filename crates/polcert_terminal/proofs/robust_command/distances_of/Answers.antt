use Rattle.std.proofs.Common.{rules}
use Rattle.polcert_terminal.proofs.robust_command.distances_of.Goals as goal

pub returns : goal.returns
returns c = search rules
