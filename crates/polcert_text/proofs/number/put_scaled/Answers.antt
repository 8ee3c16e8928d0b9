use Rattle.std.proofs.Common.{◌≡◌, ◌∙◌, ◌%◌, length, take, drop, ap, arith, rules}
use Rattle.std.proofs.lemmas.List.{drop-append-le}
use Rattle.polcert_text.proofs.Common.{fraction_text}
use Rattle.polcert_text.proofs.number.put_scaled.Goals as goal

pub returns-clause-text : goal.returns-clause-text
returns-clause-text c =
    let whole = take 16 c.put_whole-start.new.text in
    let size : length whole ≡ 16 = search rules in
    let place = c.put_whole-start.ensures.start in
    ap (drop c.put_whole-start.result) c.put_fraction-end.ensures.text
    ∙ drop-append-le c.put_whole-start.result whole (fraction_text (c.unsigned_abs.result % 1_000_000)) (omega (arith, size, place))
    ∙ search rules
