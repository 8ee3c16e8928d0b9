use Rattle.std.proofs.Common.{rules}
use Rattle.polcert_terminal.proofs.polcert_command.Choice.job.Goals as goal

pub returns-in-Lower : goal.returns-in-Lower
returns-in-Lower c = search rules
