use Rattle.std.proofs.Common.{◌-◌, length}
use Rattle.polcert_items.specs.Steps.Ahead.{PlacesFed}
use Rattle.polcert_items.proofs.entry_reader.EntryReader.feed_indices_ahead.Given as goal

abbrev pub invariant-loop-counts : goal.invariant-loop-counts
invariant-loop-counts l = PlacesFed l.fn.known l.fn.self l.bytes l.at l.self

abbrev pub decreases-loop-counts : goal.decreases-loop-counts
decreases-loop-counts l = l.most - length l.self.places
