use Rattle.polcert_full_form.specs.Steps.Printing.{index_text}
use Rattle.polcert_full_form.proofs.Printing.WrittenParts.{AreWritten}
use Rattle.polcert_full_form.proofs.print_words.write_indices.Given as goal

abbrev pub invariant-loop-number : goal.invariant-loop-number
invariant-loop-number g l = AreWritten g.W.Sink.writes g.W.Sink.failures l.fn.out (index_text l.indices) l.number l.out
