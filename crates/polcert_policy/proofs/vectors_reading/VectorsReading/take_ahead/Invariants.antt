use Rattle.std.proofs.Common.{◌≡◌, None}
use Rattle.polcert_policy.proofs.Common.{ReadsOn, TakesAhead, HasReadVectors}
use Rattle.polcert_policy.proofs.Places.{places_left}
use Rattle.polcert_policy.proofs.vectors_reading.VectorsReading.take_ahead.Given as goal

abbrev pub invariant-loop-self : goal.invariant-loop-self
invariant-loop-self l = record {
  sign : l.self.sign ≡ None;
  states : l.self.states ≡ l.fn.self.states;
  takes : TakesAhead (ReadsOn (HasReadVectors l.rounding) l.fn.self l.self) l.bytes l.at;
}

abbrev pub decreases-loop-self : goal.decreases-loop-self
decreases-loop-self l = places_left l.fn.self.states l.self.column
