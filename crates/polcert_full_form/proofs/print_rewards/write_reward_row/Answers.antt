use Rattle.std.proofs.Common.{rules, arith}
use Rattle.polcert_text.proofs.Printing.Written.{and_then, unwritten, stopped, as_text}
use Rattle.polcert_full_form.proofs.Common.{meaning}
use Rattle.polcert_full_form.proofs.Printing.WrittenParts.{wrote_nothing}
use Rattle.polcert_full_form.proofs.Denoting.RewardBlocks.{row_paid, row_unpaid}
use Rattle.polcert_full_form.proofs.print_rewards.write_reward_row.Goals as goal

pub returns-in_default : goal.returns-in_default
returns-in_default g c = wrote_nothing (row_unpaid (meaning c.args.row.now.model.now) _ _ _ c.in_default.ensures.paid)

pub write_zeros-requires : goal.write_zeros-requires
write_zeros-requires g c = grind arith

pub write_blocks-requires-clause-within : goal.write_blocks-requires-clause-within
write_blocks-requires-clause-within g c = grind arith

pub returns-in_err-write_reward_head : goal.returns-in_err-write_reward_head
returns-in_err-write_reward_head g c =
    as_text (row_paid c.args.row.now _ c.in-Some.ensures.paid)
    (stopped (search rules) (unwritten _ (unwritten _ (unwritten _ c.in_err-write_reward_head.ensures))))

pub returns-in_err-write_zeros : goal.returns-in_err-write_zeros
returns-in_err-write_zeros g c =
    as_text (row_paid c.args.row.now _ c.in-Some.ensures.paid)
    (stopped (search rules) (unwritten _ (unwritten _ (and_then c.in_ok-write_reward_head.ensures c.in_err-write_zeros.ensures))))

pub returns-in_err-write_blocks : goal.returns-in_err-write_blocks
returns-in_err-write_blocks g c =
    as_text (row_paid c.args.row.now _ c.in-Some.ensures.paid)
    (stopped (search rules) (unwritten _ (and_then (and_then c.in_ok-write_reward_head.ensures c.in_ok-write_zeros.ensures)
    c.in_err-write_blocks.ensures)))

pub returns : goal.returns
returns g c =
    as_text (row_paid c.args.row.now _ c.in-Some.ensures.paid)
    (and_then (and_then (and_then c.in_ok-write_reward_head.ensures c.in_ok-write_zeros.ensures) c.in_ok-write_blocks.ensures)
    c.write_all.ensures)
