use Rattle.std.proofs.Common.{◌≡◌, ◌∙◌, ◌-◌, ◌+◌, ◌<◌, ◌≤◌, ◌*◌, ◌^◌, ◌++◌, ◌⊎◌, inr, min, sym, length, take, drop, get_or, refl, ap}
use Rattle.std.proofs.Common.{⊎_elim, arith}
use Rattle.polcert_text.proofs.Common.{digits_value, class_of, largest, AreDigitsFrom, gap_after, Between, Whole, Fraction, Numeral}
use Rattle.polcert_text.proofs.Numbers.FrontNumbers.{whole_read, apart_after}
use Rattle.polcert_text.proofs.Numbers.FrontSizes.{digits_measure, decimal_measures}
use Rattle.polcert_text.proofs.Numbers.Plain.{at_or_after, none_or_some, plain_read}
use Rattle.polcert_text.proofs.Scanning.Runs.{ends_within}
use Rattle.polcert_text.proofs.front_numerals.plain_numeral.Goals as goal

pub returns-then-not-quick_is_point : goal.returns-then-not-quick_is_point
returns-then-not-quick_is_point c =
    let bs = c.args.bytes.now in
    let n = c.whole_digits-whole.result.1 in
    let read = c.whole_digits-whole.ensures in
    let stops = c.ends_numeral.ensures c.if-not-ends_numeral.false in
    let inside : n < length bs = omega (arith, read.within) in
    let short : n ≤ 400 = omega (arith, read.within) in
    let size = digits_measure bs n c.whole_digits-whole.result.0 (omega arith) short (omega arith) read.digits read.value
    (omega (arith, read.few)) in
    record {
      begins = ap (gap_after Between) (read.digits 0 (omega arith) (omega arith));
      ends = ends_within bs n Whole Numeral inside (whole_read bs n (omega arith) (omega arith) read.digits) refl refl stops.whole;
      short = short;
      apart = apart_after bs n inside stops.apart;
      readable = size.0;
      measures = size.1;
      top = size.2;
    }

pub returns : goal.returns
returns c =
    let bs = c.args.bytes.now in
    let p = c.whole_digits-whole.result.1 in
    let kept = c.decimals-fraction.result.end in
    let n = c.in-Some.tail.end in
    let first = c.whole_digits-whole.ensures in
    let second = c.decimals-fraction.ensures in
    let tail = c.in-Some.ensures in
    let point = c.quick_is_point.ensures c.if-not-quick_is_point.false in
    let stops = tail.stops in
    let inside : n < length bs = omega (arith, tail.high) in
    let low : p + 1 ≤ kept = omega (arith, second.low) in
    let few : kept ≤ p + 7 = omega (arith, second.high) in
    let short : n ≤ 400 = tail.short in
    let kept_is : kept ≡ min n (p + 7) = ⊎_elim (λ fewer. let same = tail.none fewer in omega (arith, same, few))
    (λ full. omega (arith, few, full, tail.low)) (at_or_after kept (p + 7)) in
    let left : p + 1 + 6 - kept ≡ p + 7 - kept = omega arith in
    let value = second.value (take p bs) _ first.value ∙ ap
    (λ k. digits_value 10 (take p bs ++ take (kept - (p + 1)) (drop (p + 1) bs)) * 10 ^ k) left in
    let fits : c.whole_digits-whole.result.0 * 1_000_000 + c.decimals-fraction.result.millionths < largest =
    omega (arith, first.few, second.few) in
    let decimals : AreDigitsFrom bs (p + 1) n = λ k from below. ⊎_elim (λ before. second.digits k from before)
    (λ following. tail.digits k following below) (at_or_after k kept) in
    let some : (0 < p) ⊎ (1 < n) = inr (omega (arith, low, tail.low)) in
    let size = decimal_measures bs p kept n _ c.in-Some.tail.is_inexact some low tail.low kept_is short (omega arith) first.digits point
    decimals value fits tail.is_inexact in
    record {
      begins = ⊎_elim (λ none. ap (λ k. gap_after Between (class_of (get_or bs k 0))) (sym none) ∙ ap (gap_after Between) point)
          (λ whole. ap (gap_after Between) (first.digits 0 (omega arith) whole)) (none_or_some p);
      ends = ends_within bs n Fraction Numeral inside (plain_read bs p n some (omega (arith, low, tail.low)) (omega arith) first.digits
          point decimals) refl refl stops.fraction;
      short = short;
      apart = apart_after bs n inside stops.apart;
      readable = size.0;
      measures = size.1;
      top = size.2;
    }
