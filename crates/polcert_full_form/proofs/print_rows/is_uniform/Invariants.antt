use Rattle.std.proofs.Common.{◌≡◌, ◌≤◌, ◌-◌, ◌==◌, true, Some}
use Rattle.polcert_full_form.proofs.Common.{reached, one, row_weights, all_below}
use Rattle.polcert_full_form.proofs.print_rows.is_uniform.Given as goal

abbrev pub invariant-loop-step : goal.invariant-loop-step
invariant-loop-step l = record {
  reached : reached (Some l.weights) l.at ≡ l.column;
  within : l.column ≤ l.row.columns;
  ones : true ≡ all_below l.column (λ c. row_weights l.row c == one);
}

abbrev pub decreases-loop-step : goal.decreases-loop-step
decreases-loop-step l = l.row.columns - l.column
