use Rattle.std.proofs.Common.{arith}
use Rattle.polcert_text.proofs.Streams.StreamLexemes.{lexeme_ended}
use Rattle.polcert_text.proofs.stream_tokens.StreamBytes.scan_lexeme.Goals as goal

pub returns-in-Some : goal.returns-in-Some
returns-in-Some g c =
    lexeme_ended _ _ c.args.self.now c.args.source.now c.in-Some.front (omega (arith, c.visible.ensures.below))
    (rw c.visible.ensures.bytes at c.in-Some.ensures)
