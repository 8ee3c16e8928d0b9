use Rattle.std.proofs.Common.{◌≡◌, ◌∙◌, ◌<◌, ◌≤◌, inr, length, ap, arith}
use Rattle.polcert_text.proofs.Common.{list_all, is_digit, exponent_size, largest, ceiling}
use Rattle.polcert_text.proofs.Numbers.SizeLaws.{whole_digits, fraction_digits, exponent_digits, length-whole, capped_exponent}
use Rattle.polcert_text.proofs.Numbers.SizeLaws.{parts_measure}
use Rattle.polcert_text.proofs.Numbers.SizeLaws.{beyond, within, exact_floor}
use Rattle.polcert_text.proofs.number.size_of_parts.Goals as goal

pub number_up_to-exponent-requires-clause-digits : goal.number_up_to-exponent-requires-clause-digits
number_up_to-exponent-requires-clause-digits c =
    let parts = c.requires.1 in ap (list_all is_digit) parts.exponent_is ∙ exponent_digits c.requires.0 parts.numeral

pub kept_digits-kept-requires-clause-whole : goal.kept_digits-kept-requires-clause-whole
kept_digits-kept-requires-clause-whole c =
    let parts = c.requires.1 in omega (arith, ap length parts.whole_is, length-whole c.requires.0, parts.short)

pub leading_size-size-requires-clause-whole : goal.leading_size-size-requires-clause-whole
leading_size-size-requires-clause-whole c =
    let parts = c.requires.1 in ap (list_all is_digit) parts.whole_is ∙ whole_digits c.requires.0 parts.numeral

pub leading_size-size-requires-clause-fraction : goal.leading_size-size-requires-clause-fraction
leading_size-size-requires-clause-fraction c =
    let parts = c.requires.1 in ap (list_all is_digit) parts.fraction_is ∙ fraction_digits c.requires.0 parts.numeral

pub returns-then-exponent-gt-LARGEST_EXPONENT-clause-value : goal.returns-then-exponent-gt-LARGEST_EXPONENT-clause-value
returns-then-exponent-gt-LARGEST_EXPONENT-clause-value c = λ bs parts.
    let exponent = capped_exponent bs _ _ parts.exponent_is c.number_up_to-exponent.ensures in
    (parts.numeral, inr (omega arith))

pub returns-then-ceiling-gt-LARGEST-clause-value : goal.returns-then-ceiling-gt-LARGEST-clause-value
returns-then-ceiling-gt-LARGEST-clause-value c = λ bs parts.
    let exponent = capped_exponent bs _ _ parts.exponent_is c.number_up_to-exponent.ensures in
    let exponent_is : c.number_up_to-exponent.result ≡ exponent_size bs = omega arith in
    let measures = parts_measure bs _ _ _ _ _ _ parts.numeral parts.short parts.whole_is parts.fraction_is parts.lowering_is exponent_is
    (omega arith) c.kept_digits-kept.ensures c.leading_size-size.ensures.is_inexact in
    let more : largest < ceiling c.leading_size-size.result.floor c.leading_size-size.result.is_inexact =
    omega (arith, c.ceiling.ensures, c.if-ceiling-gt-LARGEST.true) in
    (parts.numeral, parts.short, omega arith, beyond bs _ _ _ measures c.leading_size-size.ensures.floor more)

pub returns-clause-value : goal.returns-clause-value
returns-clause-value c = λ bs parts.
    let exponent = capped_exponent bs _ _ parts.exponent_is c.number_up_to-exponent.ensures in
    let exponent_is : c.number_up_to-exponent.result ≡ exponent_size bs = omega arith in
    let measures = parts_measure bs _ _ _ _ _ _ parts.numeral parts.short parts.whole_is parts.fraction_is parts.lowering_is exponent_is
    (omega arith) c.kept_digits-kept.ensures c.leading_size-size.ensures.is_inexact in
    let small : ceiling c.leading_size-size.result.floor c.leading_size-size.result.is_inexact ≤ largest =
    omega (arith, c.ceiling.ensures, c.if-ceiling-gt-LARGEST.false) in
    let exact = exact_floor bs _ _ _ measures c.leading_size-size.ensures.floor small in
    (record { numeral = parts.numeral; short = parts.short; exponent = omega arith; size = within bs _ _ exact small }, exact)
