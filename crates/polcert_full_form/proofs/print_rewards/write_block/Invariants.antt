use Rattle.polcert_full_form.proofs.Common.{block_text}
use Rattle.polcert_full_form.proofs.Printing.WrittenParts.{AreWritten}
use Rattle.polcert_full_form.proofs.print_rewards.write_block.Given as goal

abbrev pub invariant-loop-number : goal.invariant-loop-number
invariant-loop-number g l = AreWritten g.W.Sink.writes g.W.Sink.failures l.fn.out (block_text l.is_cost l.first l.rewards) l.number l.out
