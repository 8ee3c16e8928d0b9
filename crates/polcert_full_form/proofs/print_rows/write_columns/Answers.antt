use Rattle.std.proofs.Common.{◌+◌, rules, arith}
use Rattle.polcert_text.proofs.Printing.Written.{nothing_yet, ends_with, as_text}
use Rattle.polcert_full_form.proofs.Common.{column_text}
use Rattle.polcert_full_form.proofs.Printing.Runs.{step_is, rest_is, run_written, run_failed}
use Rattle.polcert_full_form.proofs.Printing.WalkedRows.{at_start}
use Rattle.polcert_full_form.proofs.Printing.WalkedColumns.{zero_column}
use Rattle.polcert_full_form.proofs.print_rows.write_columns.Goals as goal

pub loop-step-init : goal.loop-step-init
loop-step-init g c = record { written = nothing_yet; reached = at_start _; within = omega arith }

pub write_columns_to-requires-clause-ahead : goal.write_columns_to-requires-clause-ahead
write_columns_to-requires-clause-ahead g c =
    let next = rw c.loop-step.invariant.reached at (c.in-Some.ensures _ _ c.weights-weights.ensures).0 in
    next.0

pub write_columns_to-requires-clause-within : goal.write_columns_to-requires-clause-within
write_columns_to-requires-clause-within g c =
    let next = rw c.loop-step.invariant.reached at (c.in-Some.ensures _ _ c.weights-weights.ensures).0 in
    next.1

pub write_columns_to-requires-clause-weight : goal.write_columns_to-requires-clause-weight
write_columns_to-requires-clause-weight g c =
    let next = rw c.loop-step.invariant.reached at (c.in-Some.ensures _ _ c.weights-weights.ensures).0 in
    next.2

pub overflow_add-column : goal.overflow_add-column
overflow_add-column g c =
    let next = rw c.loop-step.invariant.reached at (c.in-Some.ensures _ _ c.weights-weights.ensures).0 in
    omega arith

pub returns-in_err-write_columns_to : goal.returns-in_err-write_columns_to
returns-in_err-write_columns_to g c =
    let row = c.args.row.now in
    let next = rw c.loop-step.invariant.reached at (c.in-Some.ensures _ _ c.weights-weights.ensures).0 in
    let part = column_text _ row in
    let zeros = zero_column _ _ in
    run_failed part c.loop-step.column (c.in-Some.step.column + 1) (step_is _ _ part _ zeros _ _ _ next) c.loop-step.invariant.written
    row.columns (omega arith)
    c.in_err-write_columns_to.ensures (search rules)

pub loop-step-smaller : goal.loop-step-smaller
loop-step-smaller g c =
    let next = rw c.loop-step.invariant.reached at (c.in-Some.ensures _ _ c.weights-weights.ensures).0 in
    omega arith

pub loop-step-preserved : goal.loop-step-preserved
loop-step-preserved g c =
    let row = c.args.row.now in
    let next = rw c.loop-step.invariant.reached at (c.in-Some.ensures _ _ c.weights-weights.ensures).0 in
    let part = column_text _ row in
    let zeros = zero_column _ _ in
    let whole = step_is _ _ part _ zeros _ _
    _ next in
    record {
      written = run_written _ c.loop-step.column (c.in-Some.step.column + 1) whole c.loop-step.invariant.written
          c.in_ok-write_columns_to.ensures;
      reached = (c.in-Some.ensures _ _ c.weights-weights.ensures).1;
      within = omega arith;
    }

pub overflow_sub-row : goal.overflow_sub-row
overflow_sub-row g c = omega arith

pub write_zero_columns-requires : goal.write_zero_columns-requires
write_zero_columns-requires g c = omega arith

pub returns : goal.returns
returns g c =
    let row = c.args.row.now in
    let end = rw c.loop-step.invariant.reached at c.in_default.ensures _ _ c.weights-weights.ensures in
    as_text
    (rest_is _ _ _ _ (zero_column _ row) _
    c.loop-step.invariant.within end)
    (ends_with _ _ _ c.loop-step.invariant.written c.write_zero_columns.ensures)
