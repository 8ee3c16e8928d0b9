use Rattle.std.proofs.Common.{rules}
use Rattle.polcert_full_form.proofs.Common.{meaning, actions_of}
use Rattle.polcert_full_form.proofs.Printing.WrittenParts.{no_turn, turn_written, turn_failed}
use Rattle.polcert_full_form.proofs.print_rewards.write_rewards.Goals as goal

pub loop-action-init : goal.loop-action-init
loop-action-init g c = no_turn

pub returns-in_err-write_rewards_at : goal.returns-in_err-write_rewards_at
returns-in_err-write_rewards_at g c =
    turn_failed (actions_of (meaning c.args.model.now)) c.loop-action.invariant c.in_err-write_rewards_at.ensures (search rules)
    (search rules)

pub loop-action-preserved : goal.loop-action-preserved
loop-action-preserved g c = turn_written c.loop-action.invariant c.in_ok-write_rewards_at.ensures
