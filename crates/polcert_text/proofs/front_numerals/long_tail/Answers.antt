use Rattle.std.proofs.Common.{◌∙◌, ◌<◌, ⊎_elim, length, get_or, ap, arith}
use Rattle.polcert_text.proofs.Common.{class_of}
use Rattle.polcert_text.proofs.Numbers.FrontSizes.{none_yet, nonzero_more}
use Rattle.polcert_text.proofs.Numbers.Plain.{below_or_at}
use Rattle.polcert_text.proofs.front_numerals.long_tail.Goals as goal

pub loop-end-init : goal.loop-end-init
loop-end-init c = record {
  low = omega arith;
  high = omega arith;
  digits = λ k low below. absurd (omega (arith, low, below));
  is_inexact = none_yet c.args.bytes.now c.args.from;
}

pub loop-end-preserved : goal.loop-end-preserved
loop-end-preserved c =
    let bs = c.args.bytes.now in
    let at = c.loop-end.end in
    let inside : at < length bs = omega arith in
    record {
      low = omega arith;
      high = omega arith;
      digits = λ k low below. ⊎_elim (λ before. c.loop-end.invariant.digits k low before)
          (λ here. ap (λ i. class_of (get_or bs i 0)) here ∙ c.quick_is_digit.ensures c.if-quick_is_digit.true) (below_or_at k at below);
      is_inexact = c.with_digit-is_inexact.ensures ∙ nonzero_more bs c.args.from at c.loop-end.is_inexact c.loop-end.invariant.low inside
          c.loop-end.invariant.is_inexact;
    }
