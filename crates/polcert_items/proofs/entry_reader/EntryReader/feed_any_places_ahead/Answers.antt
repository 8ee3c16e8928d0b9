use Rattle.std.proofs.Common.{◌∙◌, subst, arith}
use Rattle.polcert_items.proofs.Common.{take_rest}
use Rattle.std.proofs.lemmas.List.{length-drop}
use Rattle.polcert_items.specs.Steps.Ahead.{PlacesFed}
use Rattle.polcert_items.proofs.AheadPlaces.{places_more}
use Rattle.polcert_items.proofs.entry_reader.EntryReader.feed_any_places_ahead.Goals as goal

pub loop-len-preserved : goal.loop-len-preserved
loop-len-preserved c =
    let k = c.args.known.now in
    let bs = c.args.bytes.now in
    let at = c.loop-len.at in
    let was = c.loop-len.invariant in
    let new = c.feed_place_ahead.new.self in
    let next = subst (λ xs. PlacesFed k c.loop-len.self xs c.in-Some.len new) (take_rest bs at) c.in-Some.ensures.fed in
    record {
      high = omega (arith, was.high, next.high, length-drop at bs);
      table = next.table ∙ was.table;
      some = λ _. places_more k c.args.self.now c.loop-len.self new bs at c.in-Some.len c.loop-len.has_place was.some was.none next;
      none = λ e. cc;
    }
