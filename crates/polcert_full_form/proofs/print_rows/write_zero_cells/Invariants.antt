use Rattle.std.proofs.Common.{◌+◌, pos}
use Rattle.polcert_full_form.proofs.Common.{cell_line}
use Rattle.polcert_full_form.proofs.Printing.WrittenParts.{AreWritten}
use Rattle.polcert_full_form.proofs.print_rows.write_zero_cells.Given as goal

abbrev pub invariant-loop-number : goal.invariant-loop-number
invariant-loop-number g l =
    AreWritten g.W.Sink.writes g.W.Sink.failures l.fn.out (λ i. cell_line l.row.table l.row.action l.row.state (l.first + i) (pos 0))
    l.number l.out
