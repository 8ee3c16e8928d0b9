use Rattle.std.proofs.Common.{rules}
use Rattle.polcert_full_form.proofs.Printing.WrittenParts.{no_turn, turn_written, turn_failed}
use Rattle.polcert_full_form.proofs.print_rows.write_zero_cells.Goals as goal

pub loop-number-init : goal.loop-number-init
loop-number-init g c = no_turn

pub returns-in_err-write_cell_line : goal.returns-in_err-write_cell_line
returns-in_err-write_cell_line g c = turn_failed c.args.count c.loop-number.invariant c.in_err-write_cell_line.ensures (search rules)
    (search rules)

pub loop-number-preserved : goal.loop-number-preserved
loop-number-preserved g c = turn_written c.loop-number.invariant c.in_ok-write_cell_line.ensures
