use Rattle.std.proofs.Common.{◌≡◌, ◌∙◌, ◌+◌, ◌-◌, ◌++◌, ◌∷◌, [], length, take, drop, sym, ap, arith, rules}
use Rattle.std.proofs.lemmas.List.{drop-take, drop-append-le}
use Rattle.polcert_text.proofs.Printing.Written.{as_text}
use Rattle.polcert_text.proofs.number.write_scaled_then.Goals as goal

pub returns : goal.returns
returns g c =
    let start = c.put_scaled-start.result.0 in
    let end = c.put_scaled-start.result.1 in
    let before = take end c.put_scaled-start.new.text in
    let size : length before ≡ end = search rules in
    let place = c.put_scaled-start.ensures.place in
    let next = c.put-end.ensures.end in
    let whole : start + (c.put-end.result - start) ≡ c.put-end.result = omega (arith, place, next) in
    as_text (sym (drop-take start (c.put-end.result - start) c.put-end.new.text) ∙ ap (λ n. drop start (take n c.put-end.new.text)) whole
    ∙ ap (drop start) c.put-end.ensures.text ∙ drop-append-le start before (c.args.after ∷ []) (omega (arith, size, place))
    ∙ ap (λ xs. xs ++ c.args.after ∷ []) (search rules)) c.write_all.ensures
