use Rattle.std.proofs.Common.{◌≡◌, ◌≤◌, ◌-◌, Some}
use Rattle.polcert_text.proofs.Printing.Written.{HasWritten}
use Rattle.polcert_full_form.proofs.Common.{reached, for_each, column_text}
use Rattle.polcert_full_form.proofs.print_rows.write_columns.Given as goal

abbrev pub invariant-loop-step : goal.invariant-loop-step
invariant-loop-step g l = record {
  written : HasWritten g.W.Sink.writes g.W.Sink.failures l.fn.out (for_each l.column (column_text l.form l.row)) l.out;
  reached : reached (Some l.weights) l.at ≡ l.column;
  within : l.column ≤ l.row.columns;
}

abbrev pub decreases-loop-step : goal.decreases-loop-step
decreases-loop-step g l = l.row.columns - l.column
