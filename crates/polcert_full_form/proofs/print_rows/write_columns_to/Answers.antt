use Rattle.std.proofs.Common.{rules}
use Rattle.polcert_text.proofs.Printing.Written.{and_then, unwritten, stopped}
use Rattle.polcert_full_form.proofs.print_rows.write_columns_to.Goals as goal

pub returns-in_err-write_zero_columns : goal.returns-in_err-write_zero_columns
returns-in_err-write_zero_columns g c = stopped (search rules) (unwritten _ c.in_err-write_zero_columns.ensures)

pub returns : goal.returns
returns g c = and_then c.in_ok-write_zero_columns.ensures c.write_column.ensures
