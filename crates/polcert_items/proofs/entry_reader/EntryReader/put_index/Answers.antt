use Rattle.std.proofs.Common.{◌≡◌, ◌+◌, ◌<◌, ◌≤◌, length, drop, get_or, rules, ap, arith}
use Rattle.polcert_items.proofs.Common.{indices_in, Only}
use Rattle.std.proofs.lemmas.List.{length-drop}
use Rattle.polcert_items.proofs.AheadPlaces.{place_is_fed, digits_place}
use Rattle.polcert_items.proofs.entry_reader.EntryReader.put_index.Goals as goal

pub overflow_add-result : goal.overflow_add-result
overflow_add-result c =
    let bs = c.args.bytes.now in
    let front = c.args.front in
    let few : front.colon + front.digits.len ≤ length bs =
    omega (arith, (c.requires.colon 0).front.within, (c.requires.digits 0).front.within, length-drop front.colon bs) in
    search rules

pub returns-clause-fed : goal.returns-clause-fed
returns-clause-fed c =
    let k = c.args.known.now in
    let r = c.args.self.now in
    let bs = c.args.bytes.now in
    let front = c.args.front in
    let written = length r.places in
    let room : written < length (indices_in k r.table) = omega (arith, c.len-written.ensures, c.requires.most) in
    let counts = c.requires.counts written room in
    let count = get_or c.args.counts.now written 0 in
    let same : get_or c.args.counts.now c.len-written.result 0 ≡ count = ap (λ n. get_or c.args.counts.now n 0) c.len-written.ensures in
    let below : front.digits.value < count = omega (arith, same, c.if-index-counts.false) in
    let second = digits_place k r.table written (drop front.colon bs) count front.digits room c.requires.digits counts.0 below in
    place_is_fed k r bs front.colon (record { len = front.digits.len; place = Only front.digits.value }) _ room c.requires.colon second
    c.push.ensures
