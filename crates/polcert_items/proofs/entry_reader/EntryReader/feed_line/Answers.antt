use Rattle.std.proofs.Common.{sym, subst, ◌+◌}
use Rattle.polcert_items.proofs.Common.{take_rest, FedAhead}
use Rattle.polcert_items.specs.Steps.Ahead.{with_state}
use Rattle.polcert_items.specs.declared.entry_reader.EntryState.TheVariants as states
use Rattle.polcert_items.proofs.AheadLaws.{fed_none, fed_then, fed_within}
use Rattle.polcert_items.proofs.AheadPlaces.{places_taken}
use Rattle.polcert_items.proofs.entry_reader.EntryReader.feed_line.Goals as goal

pub returns-in_default : goal.returns-in_default
returns-in_default c = subst (λ r. FedAhead c.args.known.now c.args.self.now c.args.bytes.now 0 r) (sym c.in_default.ensures.none)
    (fed_none c.args.known.now c.args.self.now c.args.bytes.now)

pub returns-in_default-begin_ahead : goal.returns-in_default-begin_ahead
returns-in_default-begin_ahead c =
    let k = c.args.known.now in
    let old = c.args.self.now in
    let bs = c.args.bytes.now in
    let first = places_taken k old c.feed_places_ahead.new.self bs c.in-Some.at c.requires.state c.requires.within c.in-Some.ensures.fed in
    subst (λ r. FedAhead k old bs c.in-Some.at (with_state r states.Body)) (sym c.in_default-begin_ahead.ensures.none) first

pub feed_numbers_ahead-requires : goal.feed_numbers_ahead-requires
feed_numbers_ahead-requires c =
    let k = c.args.known.now in
    let old = c.args.self.now in
    let bs = c.args.bytes.now in
    let at = c.in-Some.at in
    let len = c.in-Some-begin_ahead.len in
    let mid = with_state c.feed_places_ahead.new.self states.Body in
    let new = c.begin_ahead.new.self in
    let first = places_taken k old c.feed_places_ahead.new.self bs at c.requires.state c.requires.within c.in-Some.ensures.fed in
    let begun = subst (λ xs. FedAhead k mid xs len new) (take_rest bs at) c.in-Some-begin_ahead.ensures.begun in
    fed_within k old new bs (at + len) (fed_then k old mid new bs at len first begun) c.requires.within

pub returns : goal.returns
returns c =
    let k = c.args.known.now in
    let old = c.args.self.now in
    let bs = c.args.bytes.now in
    let at = c.in-Some.at in
    let len = c.in-Some-begin_ahead.len in
    let mid = with_state c.feed_places_ahead.new.self states.Body in
    let new = c.begin_ahead.new.self in
    let first = places_taken k old c.feed_places_ahead.new.self bs at c.requires.state c.requires.within c.in-Some.ensures.fed in
    let begun = subst (λ xs. FedAhead k mid xs len new) (take_rest bs at) c.in-Some-begin_ahead.ensures.begun in
    let more = subst (λ xs. FedAhead k new xs c.in_ok-more.more c.feed_numbers_ahead.new.self) (take_rest bs (at + len))
    c.in_ok-more.ensures in
    fed_then k old new c.feed_numbers_ahead.new.self bs (at + len) c.in_ok-more.more (fed_then k old mid new bs at len first begun) more
