use Rattle.std.proofs.Common.{◌∙◌, ◌<◌, ⊎_elim, length, ap, arith}
use Rattle.polcert_text.proofs.Common.{take_rest, gap_after}
use Rattle.std.proofs.lemmas.List.{length-drop}
use Rattle.polcert_text.proofs.Scanning.Runs.{gap_joined, in_between}
use Rattle.polcert_text.proofs.Streams.StreamLaws.{skipped_step}
use Rattle.polcert_text.proofs.tokens.gap_prefix.Goals as goal

pub loop-at-preserved-in-Comment : goal.loop-at-preserved-in-Comment
loop-at-preserved-in-Comment c = grind (arith, length-drop, take_rest, gap_joined)

pub loop-at-preserved-then-is_blank : goal.loop-at-preserved-then-is_blank
loop-at-preserved-then-is_blank c = grind (arith, ⊎_elim, in_between, skipped_step)

pub loop-at-preserved : goal.loop-at-preserved
loop-at-preserved c =
    let inside : c.loop-at.at < length c.args.bytes.now = omega arith in
    record {
      high = omega arith;
      read = skipped_step c.args.gap c.args.bytes.now c.loop-at.at c.loop-at.gap _ inside c.loop-at.invariant.read
          (c.after.ensures ∙ ap (gap_after c.loop-at.gap) c.class_of.ensures);
      not_ended = c.in_default-after.not-Ended;
    }
