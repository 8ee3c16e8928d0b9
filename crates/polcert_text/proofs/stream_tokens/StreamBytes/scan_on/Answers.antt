use Rattle.std.proofs.Common.{◌∙◌, length, ap, arith}
use Rattle.polcert_text.proofs.Streams.StreamLexemes.{lexeme_begins, lexeme_continues, lexeme_ends, lexeme_at_end}
use Rattle.polcert_text.proofs.stream_tokens.StreamBytes.scan_on.Goals as goal

pub loop-self-init : goal.loop-self-init
loop-self-init g c = grind (arith, lexeme_begins)

pub loop-self-preserved : goal.loop-self-preserved
loop-self-preserved g c =
    let lacks = c.lacks_lexeme.ensures.lacks c.loop-self-test.true in
    let fills = rw c.in-Ok-true.field-0-test at c.in-Ok-true.ensures.ok in
    let seen = c.visible-in-Ok-true.ensures.bytes in
    lexeme_continues _ _ _ _ c.loop-self.scan c.loop-self.self c.loop-self.source _ c.fill.new.self _ c.scan_over-scan-in-Ok-true.result
    c.loop-self.invariant lacks.0 fills
    (rw seen at c.scan_over-scan-in-Ok-true.ensures.with_byte) (λ e. c.scan_over-scan-in-Ok-true.ensures.all e ∙ ap length seen)

pub returns-in-Ok-false : goal.returns-in-Ok-false
returns-in-Ok-false g c =
    let lacks = c.lacks_lexeme.ensures.lacks c.loop-self-test.true in
    let fills = rw c.in-Ok-false.field-0-test at c.in-Ok-false.ensures.ok in
    rw c.longest.ensures (lexeme_at_end _ _ _ _ c.loop-self.scan c.loop-self.self c.loop-self.source _ _ c.loop-self.invariant lacks.0
    fills)

pub returns : goal.returns
returns g c =
    rw c.longest-2.ensures (lexeme_ends _ _ _ _ c.loop-self.scan c.loop-self.self c.loop-self.source c.loop-self.invariant
    (c.lacks_lexeme.ensures.has c.loop-self-test.false))
