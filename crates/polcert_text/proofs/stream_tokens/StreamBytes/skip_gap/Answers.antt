use Rattle.std.proofs.Common.{sym, arith}
use Rattle.polcert_text.proofs.Streams.StreamGaps.{gap_begins, gap_continues, gap_ends, gap_at_end, found_some, found_none}
use Rattle.polcert_text.proofs.stream_tokens.StreamBytes.skip_gap.Goals as goal

pub loop-gap-init : goal.loop-gap-init
loop-gap-init g c = grind (arith, gap_begins)

pub loop-gap-preserved : goal.loop-gap-preserved
loop-gap-preserved g c = grind (arith, gap_continues)

pub returns-in-Ok-false : goal.returns-in-Ok-false
returns-in-Ok-false g c =
    let lacks = c.lacks_byte.ensures.lacks c.loop-gap-test.true in
    let fills = rw c.in-Ok-false.field-0-test at c.in-Ok-false.ensures.ok in
    gap_at_end _ _ _ _ c.loop-gap.gap c.loop-gap.self c.loop-gap.source _ _ c.loop-gap.invariant lacks.1 lacks.0 fills

pub returns : goal.returns
returns g c =
    let has = c.lacks_byte.ensures.has c.loop-gap-test.false in
    gap_ends _ _ _ _ c.loop-gap.gap c.loop-gap.self c.loop-gap.source _ c.loop-gap.invariant has
    (λ e. rw (sym c.visible.ensures.bytes) (found_some _ _ c.is_empty.ensures e))
    (λ e. rw (sym c.visible.ensures.bytes) (found_none _ _ c.is_empty.ensures e))
