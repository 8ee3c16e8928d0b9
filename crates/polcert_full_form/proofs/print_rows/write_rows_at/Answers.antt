use Rattle.std.proofs.Common.{rules}
use Rattle.polcert_full_form.proofs.Common.{meaning, states_of}
use Rattle.polcert_full_form.proofs.Printing.WrittenParts.{no_turn, turn_written, turn_failed}
use Rattle.polcert_full_form.proofs.print_rows.write_rows_at.Goals as goal

pub loop-state-init : goal.loop-state-init
loop-state-init g c = no_turn

pub returns-in_err-write_row : goal.returns-in_err-write_row
returns-in_err-write_row g c =
    turn_failed (states_of (meaning c.args.model.now)) c.loop-state.invariant c.in_err-write_row.ensures (search rules) (search rules)

pub loop-state-preserved : goal.loop-state-preserved
loop-state-preserved g c = turn_written c.loop-state.invariant c.in_ok-write_row.ensures
