use Rattle.polcert_full_form.specs.Steps.Printing.{printed_row}
use Rattle.polcert_full_form.proofs.Printing.WrittenParts.{AreWritten}
use Rattle.polcert_full_form.proofs.print_rows.write_rows_at.Given as goal

abbrev pub invariant-loop-state : goal.invariant-loop-state
invariant-loop-state g l = AreWritten g.W.Sink.writes g.W.Sink.failures l.fn.out (printed_row l.model.kept l.table l.action) l.state l.out
