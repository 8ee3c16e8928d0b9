use Rattle.std.proofs.Common.{◌≡◌, ◌∙◌, ℕ, ◌<◌, ◌≤◌, ◌+◌, ◌-◌, ◌*◌, ◌^◌, [], ⊎_elim, take, get_or, sym, ap, subst, arith}
use Rattle.std.proofs.Math.Nat.{pow-suc}
use Rattle.polcert_text.proofs.Common.{digits_value, class_of, Digit, pow-le-pow_right}
use Rattle.polcert_text.proofs.Scanning.Tests.{digit_by}
use Rattle.polcert_text.proofs.Numbers.NumberLaws.{digit_from, digit_to}
use Rattle.polcert_text.proofs.Numbers.Plain.{after_more, below_or_at}
use Rattle.polcert_text.proofs.front_numerals.whole_digits.Goals as goal

pub overflow_sub-digit : goal.overflow_sub-digit
overflow_sub-digit c = omega (arith, digit_from _ (digit_by _ (c.quick_is_digit.ensures c.if-quick_is_digit.true)), c.from-digit.ensures)

pub loop-at-preserved : goal.loop-at-preserved
loop-at-preserved c =
    let bs = c.args.bytes.now in
    let at = c.loop-at.at in
    let digit : class_of (get_or bs at 0) ≡ Digit = c.quick_is_digit.ensures c.if-quick_is_digit.true in
    let first : at ≡ at - 0 = omega arith in
    let next : at + 1 - 0 ≡ at + 1 = omega arith in
    let number : ℕ = c.loop-at.number in
    let high : get_or bs at 0 ≤ 57 = digit_to _ (digit_by _ digit) in
    let power : 10 ^ (at + 1) ≡ 10 ^ at * 10 = ap (λ k. 10 ^ k) (omega arith) ∙ pow-suc 10 at in
    let more : number * 10 + (get_or bs at 0 - 48) < 10 ^ (at + 1) = omega (arith, power, c.loop-at.invariant.few, high) in
    record {
      within = omega arith;
      digits = λ k low below. ⊎_elim (λ before. c.loop-at.invariant.digits k low before)
          (λ here. ap (λ i. class_of (get_or bs i 0)) here ∙ digit) (below_or_at k at below);
      value = ap (λ d. number * 10 + (d - 48)) c.from-digit.ensures
          ∙ after_more [] bs 0 at number (omega arith) (omega arith) digit
          (c.loop-at.invariant.value ∙ ap (λ k. digits_value 10 (take k bs)) first)
          ∙ ap (λ k. digits_value 10 (take k bs)) next;
      few = subst (λ d. number * 10 + (d - 48) < 10 ^ (at + 1)) (sym c.from-digit.ensures) more;
    }

pub loop-at-smaller : goal.loop-at-smaller
loop-at-smaller c = omega arith

pub returns-else-quick_is_digit-clause-few : goal.returns-else-quick_is_digit-clause-few
returns-else-quick_is_digit-clause-few c = grind (arith, pow-le-pow_right)
