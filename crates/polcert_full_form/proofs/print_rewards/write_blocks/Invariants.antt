use Rattle.std.proofs.Common.{◌+◌, ◌-◌, ◌≤◌}
use Rattle.polcert_text.proofs.Printing.Written.{HasWritten}
use Rattle.polcert_full_form.proofs.Common.{for_each, IsFilled, row_width, row_rewards, rewarded_text}
use Rattle.polcert_full_form.proofs.print_rewards.write_blocks.Given as goal

abbrev pub invariant-loop-column : goal.invariant-loop-column
invariant-loop-column g l = record {
  written : HasWritten g.W.Sink.writes g.W.Sink.failures l.fn.out
      (for_each (l.column - l.fn.first) (λ i. rewarded_text l.row (l.fn.first + i))) l.out;
  from : l.fn.first ≤ l.column;
  within : l.column ≤ row_width l.row;
  filled : IsFilled (row_rewards l.row) (row_width l.row) l.column l.block;
}

abbrev pub decreases-loop-column : goal.decreases-loop-column
decreases-loop-column g l = l.columns - l.column
