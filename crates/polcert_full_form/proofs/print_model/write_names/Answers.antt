use Rattle.std.proofs.Common.{rules, length}
use Rattle.polcert_full_form.proofs.Printing.WrittenParts.{no_turn, turn_written, turn_failed}
use Rattle.polcert_full_form.proofs.print_model.write_names.Goals as goal

pub loop-number-init : goal.loop-number-init
loop-number-init g c = no_turn

pub returns-in_err-write_name : goal.returns-in_err-write_name
returns-in_err-write_name g c = turn_failed (length c.args.names.now) c.loop-number.invariant c.in_err-write_name.ensures (search rules)
    (search rules)

pub loop-number-preserved : goal.loop-number-preserved
loop-number-preserved g c = turn_written c.loop-number.invariant c.in_ok-write_name.ensures
