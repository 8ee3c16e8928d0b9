use Rattle.std.proofs.Common.{length, arith}
use Rattle.polcert_items.proofs.AheadPlaces.{digits_place}
use Rattle.polcert_items.proofs.entry_reader.EntryReader.place_ahead.Goals as goal

pub returns-in-Some-front_digits : goal.returns-in-Some-front_digits
returns-in-Some-front_digits c =
    let r = c.args.self.now in
    digits_place c.args.known.now r.table (length r.places) c.args.bytes.now c.next_count.result c.in-Some-front_digits.index c.requires
    c.in-Some-front_digits.ensures c.next_count.ensures.count (omega arith)
