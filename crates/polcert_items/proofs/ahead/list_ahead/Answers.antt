use Rattle.std.proofs.Common.{length, rules, refl, ap, FitsSigned, w64, to_z-of_z, arith}
use Rattle.polcert_items.proofs.Common.{Numbers, no_numbers}
use Rattle.polcert_items.proofs.AheadLaws.{number_ahead}
use Rattle.polcert_items.proofs.ahead.list_ahead.Goals as goal

pub returns-in-None : goal.returns-in-None
returns-in-None g c =
    let number = c.in-Some.number in
    let fits : FitsSigned w64 number.value = search rules in
    let worth = simp to_z-of_z at c.of_millionths.ensures in
    let in_range = simp to_z-of_z at (rw c.range.ensures at c.in-None.ensures) in
    record {
      ahead = number_ahead g.T.ListNumber.kind (no_numbers c.args.needed) c.of_millionths.result c.args.bytes.now number
          g.met.T.ListNumber.distinct
          worth in_range refl (omega arith) c.in-Some.ensures _ c.with_first.ensures;
      some = omega (arith, ap (λ (n : Numbers g.row.T.Denot). length n.read) c.with_first.ensures);
    }
