use Rattle.std.proofs.Common.{◌≡◌, ◌-◌, ◌≤◌, true, false, length}
use Rattle.polcert_items.specs.Steps.Ahead.{PlacesFed}
use Rattle.polcert_items.proofs.entry_reader.EntryReader.feed_any_places_ahead.Given as goal

abbrev pub invariant-loop-len : goal.invariant-loop-len
invariant-loop-len l = record {
  high : l.at ≤ length l.bytes;
  table : l.self.table ≡ l.fn.self.table;
  some : l.has_place ≡ true → PlacesFed l.fn.known l.fn.self l.bytes l.at l.self;
  none : l.has_place ≡ false → (l.at ≡ 0) × (l.self ≡ l.fn.self);
}

abbrev pub decreases-loop-len : goal.decreases-loop-len
decreases-loop-len l = 4 - length l.self.places
