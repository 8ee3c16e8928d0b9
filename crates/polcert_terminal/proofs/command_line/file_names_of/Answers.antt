use Rattle.std.proofs.Common.{rules}
use Rattle.polcert_terminal.proofs.command_line.file_names_of.Goals as goal

pub returns : goal.returns
returns c = search rules
