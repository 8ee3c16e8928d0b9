use Rattle.std.proofs.Common.{◌≡◌, ◌≤◌, Bool, ℤ, rules, FitsSigned, get_or, unsigned_abs, length, arith}
use Rattle.polcert_full_form.proofs.Common.{largest, written}
use Rattle.polcert_text.proofs.Printing.Written.{as_text}
use Rattle.polcert_full_form.proofs.Printing.WrittenParts.{no_turn, turn_written, turn_failed}
use mir.Syntax.{w64}
use mir.Val.{to_z, of_z}
use Rattle.polcert_full_form.proofs.print_rewards.write_block.Goals as goal

-- what is written of a reward is what the text gives of it
written_is : (costs : Bool) (reward given : ℤ) → FitsSigned w64 given → unsigned_abs reward ≤ largest
    → given ≡ written costs (to_z w64 (of_z w64 reward))
    → to_z w64 (of_z w64 given) ≡ written costs reward
written_is costs reward given fits small e = grind arith

pub loop-number-init : goal.loop-number-init
loop-number-init g c = no_turn

pub returns-in_err-write_number_at : goal.returns-in_err-write_number_at
returns-in_err-write_number_at g c =
    let small = c.requires.small _ (search rules) in
    let value = written_is _ (get_or c.args.rewards.now _ _) _ (search rules) small
    c.written_reward.ensures in
    turn_failed (length c.args.rewards.now) c.loop-number.invariant
    (as_text (cc) c.in_err-write_number_at.ensures) (search rules) (search rules)

pub loop-number-preserved : goal.loop-number-preserved
loop-number-preserved g c =
    let small = c.requires.small _ (search rules) in
    let value = written_is _ (get_or c.args.rewards.now _ _) _ (search rules) small
    c.written_reward.ensures in
    turn_written c.loop-number.invariant (as_text (cc)
    c.in_ok-write_number_at.ensures)
