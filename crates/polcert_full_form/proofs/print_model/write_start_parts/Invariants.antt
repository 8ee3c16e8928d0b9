use Rattle.polcert_full_form.proofs.Common.{meaning}
use Rattle.polcert_full_form.specs.Steps.StartForms.{start_part}
use Rattle.polcert_full_form.proofs.Printing.WrittenParts.{AreWritten}
use Rattle.polcert_full_form.proofs.print_model.write_start_parts.Given as goal

abbrev pub invariant-loop-state : goal.invariant-loop-state
invariant-loop-state g l = AreWritten g.W.Sink.writes g.W.Sink.failures l.fn.out (start_part l.form (meaning l.model).start) l.state l.out
