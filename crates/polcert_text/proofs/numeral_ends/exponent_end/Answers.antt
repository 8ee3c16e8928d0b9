use Rattle.std.proofs.Common.{◌≡◌, ◌+◌, ◌<◌, take, length, refl, sym, arith}
use Rattle.polcert_text.proofs.Common.{state_through, Start}
use Rattle.polcert_text.specs.declared.bytes.ByteClass.TheVariants.{ExponentMark}
use Rattle.polcert_text.specs.declared.tokens.State.TheVariants.{Mark}
use Rattle.polcert_text.proofs.Scanning.LexemeLaws.{state_step}
use Rattle.polcert_text.proofs.Numbers.NumeralParts.{exponent_read}
use Rattle.polcert_text.proofs.numeral_ends.exponent_end.Goals as goal

pub returns-clause-read : goal.returns-clause-read
returns-clause-read c = λ _ mark.
    let bs = c.args.bytes.now in
    let from = c.args.from in
    let inside : from < length bs = omega arith in
    let at_mark : state_through Start (take (from + 1) bs) ≡ Mark =
    state_step bs from _ ExponentMark Mark inside refl (sym (c.quick_is_mark.ensures c.if-not-quick_is_mark.false)) (sym mark) in
    let digits = c.digits_end_until-end.ensures in
    exponent_read bs _ _ (omega arith) (omega arith) (c.sign_end-digits.ensures.read at_mark) digits.digits
