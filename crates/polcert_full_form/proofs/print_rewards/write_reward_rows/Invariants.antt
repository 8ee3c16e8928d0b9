use Rattle.std.proofs.Common.{Some}
use Rattle.polcert_full_form.proofs.Common.{meaning, reward_row_text}
use Rattle.polcert_full_form.proofs.Printing.WrittenParts.{AreWritten}
use Rattle.polcert_full_form.proofs.print_rewards.write_reward_rows.Given as goal

abbrev pub invariant-loop-end : goal.invariant-loop-end
invariant-loop-end g l =
    AreWritten g.W.Sink.writes g.W.Sink.failures l.fn.out
    (λ e. reward_row_text (meaning l.whole.model.now) l.whole.action l.whole.start (Some e)) l.end l.out
