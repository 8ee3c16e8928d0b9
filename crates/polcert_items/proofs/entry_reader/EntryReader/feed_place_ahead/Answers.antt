use Rattle.std.proofs.Common.{◌∙◌, ◌+◌, ◌<◌, ◌≤◌, ℕ, [], ◌∷◌, length, length-append, drop, rules, ap, subst, arith}
use Rattle.polcert_items.proofs.Common.{take_rest, indices_in, named_in, BeginWithPlace}
use Rattle.std.proofs.lemmas.List.{length-drop}
use Rattle.polcert_items.proofs.AheadPlaces.{place_is_fed}
use Rattle.polcert_items.proofs.KeptEntries.{few_indices}
use Rattle.polcert_items.proofs.entry_reader.EntryReader.feed_place_ahead.Goals as goal

pub returns-clause-fed : goal.returns-clause-fed
returns-clause-fed c =
    let k = c.args.known.now in
    let r = c.args.self.now in
    let bs = c.args.bytes.now in
    let colon = c.in-Some.colon in
    let room : length r.places < length (indices_in k r.table) = omega (arith, c.indices_of.ensures k, c.len.ensures) in
    let second = subst (λ xs. (position : ℕ) → BeginWithPlace (drop (length r.places) (named_in k r.table)) position xs
    c.in-Some-place_ahead.front) (take_rest bs colon) c.in-Some-place_ahead.ensures in
    place_is_fed k r bs colon c.in-Some-place_ahead.front _ room c.in-Some.ensures second c.push.ensures

pub returns-clause-grows : goal.returns-clause-grows
returns-clause-grows c = ap length c.push.ensures ∙ length-append c.args.self.now.places (c.in-Some-place_ahead.front.place ∷ [])

pub slice_bounds-place_ahead-count : goal.slice_bounds-place_ahead-count
slice_bounds-place_ahead-count c = (c.in-Some.ensures 0).front.within

pub slice_bounds-place_ahead-start : goal.slice_bounds-place_ahead-start
slice_bounds-place_ahead-start c =
    let few : c.in-Some.colon ≤ length c.args.bytes.now = (c.in-Some.ensures 0).front.within in
    search rules

pub overflow_add-result : goal.overflow_add-result
overflow_add-result c =
    let k = c.args.known.now in
    let r = c.args.self.now in
    let bs = c.args.bytes.now in
    let colon = c.in-Some.colon in
    let second = subst (λ xs. (position : ℕ) → BeginWithPlace (drop (length r.places) (named_in k r.table)) position xs
    c.in-Some-place_ahead.front) (take_rest bs colon) c.in-Some-place_ahead.ensures in
    let few : colon + c.in-Some-place_ahead.front.len ≤ length bs =
    omega (arith, (c.in-Some.ensures 0).front.within, (second 0).front.within, length-drop colon bs) in
    search rules

pub push-requires : goal.push-requires
push-requires c =
    let k = c.args.known.now in
    let r = c.args.self.now in
    omega (arith, c.indices_of.ensures k, c.len.ensures, few_indices k r.table)
