use Rattle.std.proofs.Common.{◌-◌, ◌+◌, length}
use Rattle.polcert_text.proofs.Streams.StreamLexemes.{InLexeme}
use Rattle.polcert_text.proofs.stream_tokens.StreamBytes.scan_on.Given as goal

abbrev pub invariant-loop-self : goal.invariant-loop-self
invariant-loop-self g l = InLexeme g.S.Source.reads g.S.Source.failures l.fn.self l.fn.source l.scan l.self l.source

abbrev pub decreases-loop-self : goal.decreases-loop-self
decreases-loop-self g l = l.self.limit + 1 - (l.self.place + length l.self.kept)
