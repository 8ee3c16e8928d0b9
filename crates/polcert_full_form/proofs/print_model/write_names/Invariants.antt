use Rattle.polcert_full_form.proofs.Common.{name_text}
use Rattle.polcert_full_form.proofs.Printing.WrittenParts.{AreWritten}
use Rattle.polcert_full_form.proofs.print_model.write_names.Given as goal

abbrev pub invariant-loop-number : goal.invariant-loop-number
invariant-loop-number g l = AreWritten g.W.Sink.writes g.W.Sink.failures l.fn.out (name_text l.names) l.number l.out
