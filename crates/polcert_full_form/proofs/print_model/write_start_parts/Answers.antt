use Rattle.std.proofs.Common.{rules}
use Rattle.polcert_full_form.proofs.Common.{meaning, states_of}
use Rattle.polcert_full_form.proofs.Printing.WrittenParts.{no_turn, turn_written, turn_failed}
use Rattle.polcert_full_form.proofs.print_model.write_start_parts.Goals as goal

pub loop-state-init : goal.loop-state-init
loop-state-init g c = no_turn

pub returns-in_err-write_start_part : goal.returns-in_err-write_start_part
returns-in_err-write_start_part g c =
    turn_failed (states_of (meaning c.args.model.now)) c.loop-state.invariant c.in_err-write_start_part.ensures (search rules)
    (search rules)

pub loop-state-preserved : goal.loop-state-preserved
loop-state-preserved g c = turn_written c.loop-state.invariant c.in_ok-write_start_part.ensures
