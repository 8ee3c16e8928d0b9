use Rattle.std.proofs.Common.{rules}
use Rattle.polcert_terminal.proofs.polcert_command.choice_by_name.Goals as goal

pub returns-in_ok-file_names_of-in-check : goal.returns-in_ok-file_names_of-in-check
returns-in_ok-file_names_of-in-check c = search rules

pub returns-in_ok-value_of-in-print : goal.returns-in_ok-value_of-in-print
returns-in_ok-value_of-in-print c = search rules

pub returns-in_ok-file_names_of-in-raise : goal.returns-in_ok-file_names_of-in-raise
returns-in_ok-file_names_of-in-raise c = search rules
