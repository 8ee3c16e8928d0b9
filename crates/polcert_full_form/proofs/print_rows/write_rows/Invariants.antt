use Rattle.polcert_full_form.specs.Steps.Printing.{rows_at}
use Rattle.polcert_full_form.proofs.Printing.WrittenParts.{AreWritten}
use Rattle.polcert_full_form.proofs.print_rows.write_rows.Given as goal

abbrev pub invariant-loop-action : goal.invariant-loop-action
invariant-loop-action g l = AreWritten g.W.Sink.writes g.W.Sink.failures l.fn.out (rows_at l.model.kept l.table) l.action l.out
