use Rattle.std.proofs.Common.{◌≡◌, ◌∙◌, ◌-◌, ◌+◌, length, take, drop, get_or, sym, subst, ap}
use Rattle.std.proofs.lemmas.Int.{to_z-of_z}
use Rattle.polcert_text.proofs.Common.{take_rest, class_of, BeginWithValue, EndsAsSize}
use mir.Val.{SFits, to_z, of_z}
use mir.Syntax.{w64}
use Rattle.polcert_text.specs.declared.bytes.ByteClass.TheVariants.{Minus}
use Rattle.polcert_text.proofs.Taken.ValueLaws.{plain_begins, minus_begins}
use Rattle.polcert_text.proofs.front_tokens.value_at.Goals as goal

pub returns-then-quick_is_minus : goal.returns-then-quick_is_minus
returns-then-quick_is_minus c = λ place.
    let bs = c.args.bytes.now in
    let gap = c.args.start in
    let numeral = c.in-Some.numeral in
    let rest : take (length bs - gap) (drop gap bs) ≡ drop gap bs = take_rest bs gap in
    let following = take_rest (take (length bs - gap) (drop gap bs)) 1 ∙ ap (drop 1) rest in
    let ends = subst (λ xs. EndsAsSize xs numeral) following c.in-Some.ensures in
    let minus : class_of (get_or (drop gap bs) 0 0) ≡ Minus = ap (λ xs. class_of (get_or xs 0 0)) (sym rest)
    ∙ c.quick_is_minus.ensures c.if-quick_is_minus.true in
    let fits : SFits w64 c.value.result = record { sfits = c.value.type_inv } in
    let same : to_z w64 (of_z w64 c.value.result) ≡ c.value.result = to_z-of_z w64 c.value.result fits in
    subst (λ value. BeginWithValue c.args.rounding place bs (record { len = gap + 1 + numeral.len; value = value })) (sym same)
    (minus_begins c.args.rounding place bs gap numeral c.requires.gap c.value.result minus ends (c.value.ensures _ ends.measures))

pub returns : goal.returns
returns c = λ place.
    let bs = c.args.bytes.now in
    let gap = c.args.start in
    let numeral = c.in-Some-numeral_in.numeral in
    let ends = subst (λ xs. EndsAsSize xs numeral) (take_rest bs gap) c.in-Some-numeral_in.ensures in
    let fits : SFits w64 c.value-2.result = record { sfits = c.value-2.type_inv } in
    let same : to_z w64 (of_z w64 c.value-2.result) ≡ c.value-2.result = to_z-of_z w64 c.value-2.result fits in
    subst (λ value. BeginWithValue c.args.rounding place bs (record { len = gap + numeral.len; value = value })) (sym same)
    (plain_begins c.args.rounding place bs gap numeral c.requires.gap c.value-2.result ends (c.value-2.ensures _ ends.measures))
