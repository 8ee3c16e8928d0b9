use Rattle.std.proofs.Common.{◌≡◌, ◌≤◌, ◌-◌, ◌%◌, ◌==◌, true, Some}
use Rattle.polcert_full_form.proofs.Common.{reached, row_weights, all_below}
use Rattle.polcert_full_form.proofs.print_rows.is_decimal.Given as goal

abbrev pub invariant-loop-step : goal.invariant-loop-step
invariant-loop-step l =
    let n = l.row.columns in
    record {
      within : reached (Some l.weights) l.at ≤ n;
      multiples : true ≡ all_below (reached (Some l.weights) l.at) (λ c. row_weights l.row c % n == 0);
    }

abbrev pub decreases-loop-step : goal.decreases-loop-step
decreases-loop-step l = l.row.columns - reached (Some l.weights) l.at
