use Rattle.std.proofs.Common.{◌≡◌, ◌+◌, ◌-◌, rules, arith}
use Rattle.polcert_text.proofs.Printing.Written.{nothing_yet}
use Rattle.polcert_full_form.proofs.Common.{meaning, row_width, row_rewards}
use Rattle.polcert_full_form.proofs.Denoting.RewardBlocks.{size_is, small_in, block_more, small_rewards}
use Rattle.polcert_full_form.proofs.Printing.Runs.{run_written, run_failed}
use Rattle.polcert_full_form.proofs.print_rewards.write_blocks.Goals as goal

pub loop-column-init : goal.loop-column-init
loop-column-init g c =
    let none : c.args.first - c.args.first ≡ 0 = omega arith in
    record { written = rw none nothing_yet; from = omega arith; within = c.requires.within; filled = c.requires.filled }

pub write_block-requires-clause-small : goal.write_block-requires-clause-small
write_block-requires-clause-small g c =
    let row = c.args.row.now in
    let loop = c.loop-column.invariant in
    small_in (row_rewards row) _ _ _ _ loop.filled (rw c.columns-columns.ensures.columns at c.min-size.ensures) loop.within
    (small_rewards row)

pub write_block-requires-clause-room : goal.write_block-requires-clause-room
write_block-requires-clause-room g c =
    let row = c.args.row.now in
    let loop = c.loop-column.invariant in
    let taken = size_is (row_rewards row) _ _ _ _ loop.filled (rw c.columns-columns.ensures.columns at c.min-size.ensures)
    loop.within in
    omega arith

pub returns-in_err-write_block : goal.returns-in_err-write_block
returns-in_err-write_block g c =
    let row = c.args.row.now in
    let loop = c.loop-column.invariant in
    let size = rw c.columns-columns.ensures.columns at c.min-size.ensures in
    let more = block_more (row_rewards row) _ _ _ _ loop.filled size
    loop.within
    _ _ loop.from in
    run_failed _ (c.loop-column.column - c.args.first)
    (c.loop-column.column + c.min-size.result - c.args.first)
    more loop.written (row_width row - c.args.first) (omega arith)
    (rw c.is_cost.ensures at c.in_err-write_block.ensures) (search rules)

pub loop-column-preserved : goal.loop-column-preserved
loop-column-preserved g c =
    let row = c.args.row.now in
    let loop = c.loop-column.invariant in
    let size = rw c.columns-columns.ensures.columns at c.min-size.ensures in
    let costs = (meaning row.model.now).preamble.costs in
    let more = block_more (row_rewards row) _ _ _ _ loop.filled size
    loop.within
    _ _ loop.from in
    record {
      written = run_written _ (c.loop-column.column - c.args.first)
          (c.loop-column.column + c.min-size.result - c.args.first) more loop.written (rw c.is_cost.ensures at c.in_ok-write_block.ensures);
      from = omega arith;
      within = grind arith;
      filled = c.fill.ensures;
    }

pub returns : goal.returns
returns g c = grind arith
