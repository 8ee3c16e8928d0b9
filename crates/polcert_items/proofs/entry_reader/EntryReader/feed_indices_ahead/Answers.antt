use Rattle.std.proofs.Common.{subst}
use Rattle.polcert_items.proofs.Common.{take_rest}
use Rattle.polcert_items.specs.Steps.Ahead.{PlacesFed}
use Rattle.polcert_items.proofs.AheadPlaces.{places_then}
use Rattle.polcert_items.proofs.entry_reader.EntryReader.feed_indices_ahead.Goals as goal

pub loop-counts-preserved : goal.loop-counts-preserved
loop-counts-preserved c =
    let k = c.args.known.now in
    let bs = c.args.bytes.now in
    let at = c.loop-counts.at in
    let new = c.put_index-in-loop-counts.new.self in
    let next = subst (λ xs. PlacesFed k c.loop-counts.self xs c.in-Some-put_index.len new) (take_rest bs at) c.in-Some-put_index.ensures.fed
    in
    places_then k c.args.self.now c.loop-counts.self new bs at c.in-Some-put_index.len c.loop-counts.invariant next
