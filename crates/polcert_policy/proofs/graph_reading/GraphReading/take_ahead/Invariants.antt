use Rattle.std.proofs.Common.{◌≡◌, ◌+◌, None}
use Rattle.polcert_policy.proofs.Common.{ReadsOn, TakesAhead, IsRead, HasCounts}
use Rattle.polcert_policy.proofs.Places.{places_left}
use Rattle.polcert_policy.proofs.graph_reading.GraphReading.take_ahead.Given as goal

abbrev pub invariant-loop-self : goal.invariant-loop-self
invariant-loop-self l = record {
  minus : l.self.minus ≡ None;
  counts : HasCounts l.fn.self.actions l.fn.self.observations l.self;
  takes : TakesAhead (ReadsOn (λ (_ : Unit {0}). IsRead) l.fn.self l.self) l.bytes l.at;
}

abbrev pub decreases-loop-self : goal.decreases-loop-self
decreases-loop-self l = places_left (1 + l.fn.self.observations) l.self.column
