use Rattle.std.proofs.Common.{◌+◌, pos}
use Rattle.polcert_full_form.proofs.Printing.WrittenParts.{AreWritten}
use Rattle.polcert_full_form.proofs.Common.{number_text}
use Rattle.polcert_full_form.proofs.print_words.write_zeros.Given as goal

abbrev pub invariant-loop-number : goal.invariant-loop-number
invariant-loop-number g l = AreWritten g.W.Sink.writes g.W.Sink.failures l.fn.out (λ i. number_text (l.first + i) (pos 0)) l.number l.out
