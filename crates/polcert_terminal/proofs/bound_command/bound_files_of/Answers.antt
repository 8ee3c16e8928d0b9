use Rattle.std.proofs.Common.{rules}
use Rattle.polcert_terminal.proofs.bound_command.bound_files_of.Goals as goal

pub returns : goal.returns
returns c = search rules
