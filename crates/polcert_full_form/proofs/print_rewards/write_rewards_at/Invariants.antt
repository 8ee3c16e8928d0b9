use Rattle.polcert_full_form.proofs.Common.{meaning, rewards_from}
use Rattle.polcert_full_form.proofs.Printing.WrittenParts.{AreWritten}
use Rattle.polcert_full_form.proofs.print_rewards.write_rewards_at.Given as goal

abbrev pub invariant-loop-start : goal.invariant-loop-start
invariant-loop-start g l = AreWritten g.W.Sink.writes g.W.Sink.failures l.fn.out (rewards_from (meaning l.model) l.action) l.start l.out
