use Rattle.std.proofs.Common.{◌≡◌, ◌∙◌, ◌+◌, ◌-◌, take, drop, sym, ap, arith, rules}
use Rattle.std.proofs.lemmas.List.{drop-take}
use Rattle.polcert_text.proofs.Printing.PrintLaws.{scaled_denotes}
use Rattle.polcert_text.proofs.Printing.Written.{as_text}
use Rattle.polcert_text.proofs.number.write_scaled.Goals as goal

pub returns-clause-written : goal.returns-clause-written
returns-clause-written g c =
    let start = c.put_scaled-start.result.0 in
    let end = c.put_scaled-start.result.1 in
    let place = c.put_scaled-start.ensures.place in
    let whole : start + (end - start) ≡ end = omega (arith, place) in
    as_text (sym (drop-take start (end - start) c.put_scaled-start.new.text)
    ∙ ap (λ n. drop start (take n c.put_scaled-start.new.text)) whole
    ∙ search rules) c.write_all.ensures

pub returns-clause-exact : goal.returns-clause-exact
returns-clause-exact g c = scaled_denotes c.args.scaled c.ranges.scaled
