use Rattle.std.proofs.Common.{rules}
use Rattle.polcert_full_form.proofs.Common.{meaning, states_of}
use Rattle.polcert_full_form.proofs.Printing.WrittenParts.{no_turn, turn_written, turn_failed}
use Rattle.polcert_full_form.proofs.print_rewards.write_reward_rows.Goals as goal

pub loop-end-init : goal.loop-end-init
loop-end-init g c = no_turn

pub returns-in_err-write_reward_row : goal.returns-in_err-write_reward_row
returns-in_err-write_reward_row g c =
    turn_failed (states_of (meaning c.args.whole.now.model.now)) c.loop-end.invariant c.in_err-write_reward_row.ensures (search rules)
    (search rules)

pub loop-end-preserved : goal.loop-end-preserved
loop-end-preserved g c = turn_written c.loop-end.invariant c.in_ok-write_reward_row.ensures
