use Rattle.std.proofs.Common.{rules}
use Rattle.polcert_terminal.proofs.bound_command.bound_choice_by_name.Goals as goal

pub returns-in_ok-bound_files_of-in-check : goal.returns-in_ok-bound_files_of-in-check
returns-in_ok-bound_files_of-in-check c = search rules

pub returns-in_ok-bound_files_of-in-raise : goal.returns-in_ok-bound_files_of-in-raise
returns-in_ok-bound_files_of-in-raise c = search rules
