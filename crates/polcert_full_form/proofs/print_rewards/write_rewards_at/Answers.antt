use Rattle.std.proofs.Common.{rules}
use Rattle.polcert_full_form.proofs.Common.{meaning, states_of}
use Rattle.polcert_full_form.proofs.Printing.WrittenParts.{no_turn, turn_written, turn_failed}
use Rattle.polcert_full_form.proofs.print_rewards.write_rewards_at.Goals as goal

pub loop-start-init : goal.loop-start-init
loop-start-init g c = no_turn

pub returns-in_err-write_rewards_from : goal.returns-in_err-write_rewards_from
returns-in_err-write_rewards_from g c =
    turn_failed (states_of (meaning c.args.model.now)) c.loop-start.invariant c.in_err-write_rewards_from.ensures (search rules)
    (search rules)

pub loop-start-preserved : goal.loop-start-preserved
loop-start-preserved g c = turn_written c.loop-start.invariant c.in_ok-write_rewards_from.ensures
