use Rattle.std.proofs.Common.{◌-◌, ◌+◌, length}
use Rattle.polcert_text.proofs.Streams.StreamGaps.{InGap}
use Rattle.polcert_text.proofs.stream_tokens.StreamBytes.skip_gap.Given as goal

abbrev pub invariant-loop-gap : goal.invariant-loop-gap
invariant-loop-gap g l = InGap g.S.Source.reads g.S.Source.failures l.fn.self l.fn.source l.gap l.self l.source

abbrev pub decreases-loop-gap : goal.decreases-loop-gap
decreases-loop-gap g l = l.self.limit + 1 - (l.self.place + length l.self.kept)
