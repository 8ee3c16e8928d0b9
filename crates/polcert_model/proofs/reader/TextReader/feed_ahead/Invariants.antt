use Rattle.std.proofs.Common.{◌+◌, ◌-◌, ◌≤◌, length}
use Rattle.polcert_model.proofs.Common.{TakesAhead, TextReadsOn}
use Rattle.polcert_model.proofs.reader.TextReader.feed_ahead.Given as goal

abbrev pub invariant-loop-word : goal.invariant-loop-word
invariant-loop-word l = record {
  few : l.self.number ≤ l.fn.self.number + l.at;
  high : l.at ≤ length l.bytes;
  taken : TakesAhead (TextReadsOn l.fn.self l.self) l.bytes l.at;
}

abbrev pub decreases-loop-word : goal.decreases-loop-word
decreases-loop-word l = length l.bytes - l.at
