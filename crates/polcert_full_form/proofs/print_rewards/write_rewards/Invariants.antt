use Rattle.polcert_full_form.proofs.Common.{meaning}
use Rattle.polcert_full_form.specs.Steps.Printing.{rewards_at}
use Rattle.polcert_full_form.proofs.Printing.WrittenParts.{AreWritten}
use Rattle.polcert_full_form.proofs.print_rewards.write_rewards.Given as goal

abbrev pub invariant-loop-action : goal.invariant-loop-action
invariant-loop-action g l = AreWritten g.W.Sink.writes g.W.Sink.failures l.fn.out (rewards_at (meaning l.model)) l.action l.out
