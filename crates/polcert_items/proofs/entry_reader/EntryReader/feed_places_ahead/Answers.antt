use Rattle.std.proofs.Common.{subst}
use Rattle.polcert_items.proofs.Common.{take_rest}
use Rattle.polcert_items.specs.Steps.Ahead.{PlacesFed}
use Rattle.polcert_items.proofs.AheadPlaces.{places_then}
use Rattle.polcert_items.proofs.entry_reader.EntryReader.feed_places_ahead.Goals as goal

pub returns-in-Some-feed_any_places_ahead-clause-fed : goal.returns-in-Some-feed_any_places_ahead-clause-fed
returns-in-Some-feed_any_places_ahead-clause-fed c =
    let k = c.args.known.now in
    let bs = c.args.bytes.now in
    let mid = c.feed_indices_ahead.new.self in
    let new = c.feed_any_places_ahead-2.new.self in
    let len = c.in-Some-feed_any_places_ahead.len in
    let next = subst (λ xs. PlacesFed k mid xs len new) (take_rest bs c.in-Some.at) c.in-Some-feed_any_places_ahead.ensures.fed in
    places_then k c.args.self.now mid new bs c.in-Some.at len c.in-Some.ensures.fed next
