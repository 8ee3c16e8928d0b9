use Rattle.std.proofs.Common.{◌≡◌, ◌∙◌, take, sym, ap, arith}
use Rattle.std.proofs.lemmas.List.{length-take-le}
use Rattle.polcert_text.proofs.Common.{exponent_of, is_lowering, without_sign}
use Rattle.polcert_text.specs.Steps.NumeralEnds.{between}
use Rattle.polcert_text.proofs.front_numerals.any_numeral.Goals as goal

pub size_of_parts-size-requires : goal.size_of_parts-size-requires
size_of_parts-size-requires c =
    let bs = c.args.bytes.now in
    let ends = c.in-Some.ends in
    let e = c.in-Some.ensures in
    let exponent : between c.min.result ends.end bs ≡ exponent_of (take ends.end bs) = ap (λ k. between k ends.end bs) c.min.ensures
    ∙ sym e.exponent in (
      take ends.end bs,
      record {
        numeral = e.numeral;
        short = omega (arith, length-take-le ends.end bs (omega (arith, e.within.within)), e.short);
        whole_is = sym e.whole;
        fraction_is = ap (λ k. between k ends.mantissa bs) c.min-2.ensures ∙ sym e.fraction;
        lowering_is = c.split_sign-is_lowering.ensures.is_lowering ∙ ap is_lowering exponent;
        exponent_is = c.split_sign-is_lowering.ensures.digits ∙ ap without_sign exponent;
      },
    )
