-- A numeral of digits alone, read without a point and an exponent.
use Rattle.std.proofs.Common.{◌≡◌, ◌∙◌, ℕ, ◌+◌, ◌-◌, ◌*◌, ◌^◌, ◌<◌, ◌≤◌, true, false, List, [], ◌++◌, length, take, drop, take_all}
use Rattle.std.proofs.Common.{append-nil, get_or, refl, sym, ap, arith}
use Rattle.polcert_text.proofs.Common.{drop_all, before_first, after_first, digits_value, is_exponent_mark, is_point, class_of}
use Rattle.polcert_text.proofs.Common.{is_numeral, without_sign, fraction_of, exponent_of, is_lowering, exponent_size, largest}
use Rattle.polcert_text.proofs.Common.{IsReadable, ceiling, Measures, state_through, Digit}
use Rattle.polcert_text.specs.declared.tokens.State.TheVariants as states
use Rattle.polcert_text.proofs.Scanning.LexemeLaws.{state_step}
use Rattle.polcert_text.proofs.Scanning.Tests.{mark_by, point_by}
use Rattle.polcert_text.proofs.Numbers.NumberLaws.{before_all, after_all, numeral_at_state}
use Rattle.polcert_text.proofs.Numbers.Plain.{run}
use Rattle.polcert_text.proofs.Numbers.SizeLaws.{parts_measure, within}

module _ (bs : List ℕ) (some : 0 < length bs) (digits : (k : ℕ) → 0 ≤ k → k < length bs → class_of (get_or bs k 0) ≡ Digit) where
  mantissa : before_first is_exponent_mark bs ≡ bs
  mantissa = before_all _ bs (λ k l. mark_by _ (digits k (omega arith) l))

  exponent : exponent_of bs ≡ []
  exponent = after_all _ bs (λ k l. mark_by _ (digits k (omega arith) l))

  fraction : fraction_of bs ≡ []
  fraction = ap (after_first _) mantissa ∙ after_all _ bs (λ k l. point_by _ (digits k (omega arith) l))

  numeral : is_numeral bs ≡ true
  numeral =
      let begun =
      state_step bs 0 _ Digit _ some refl (sym (digits 0 (omega arith) some)) refl in
      let done = run bs 1 (length bs - 1) _ (omega arith) refl begun
      (λ k l. digits (1 + k) (omega arith) (omega arith)) in
      sym (numeral_at_state bs states.Whole (ap (state_through states.Start) (sym (take_all (1 + (length bs - 1)) bs (omega (arith, some))))
      ∙ done))

  no_exponent : exponent_size bs ≡ 0
  unfolding exponent_size
  no_exponent = ap (λ xs. digits_value 10 (without_sign xs)) exponent

  pub whole_measures : (number : ℕ) → length bs ≤ 400 → number ≡ digits_value 10 bs → number * 1000000 < largest
      → IsReadable bs × Measures bs (number * 1000000) false × (ceiling (number * 1000000) false ≤ largest)
  whole_measures number short value small =
      let kept : ℕ = length bs + 6 in
      let all = append-nil bs in
      let none : drop kept (bs ++ []) ≡ [] = ap (drop kept) all ∙ drop_all kept bs (omega arith) in
      let measures =
      parts_measure bs bs [] false 0 kept false numeral short
      (sym (ap (before_first is_point) mantissa ∙ before_all is_point bs (λ k l. point_by (get_or bs k 0) (digits k (omega arith) l))))
      (sym fraction) (sym (ap is_lowering exponent)) (sym no_exponent)
      (omega arith) (omega arith) (cc) in
      let front = ap (take kept) all ∙ take_all kept bs (omega arith) in
      let six : length bs + 6 - length bs ≡ 6 = omega arith in
      let left : kept - length (bs ++ []) ≡ 6 = cc in
      let size =
      (λ i. digits_value 10 (front i) * 10 ^ left i) ∙ ap (λ n. n * 1000000) (sym value) in
      let exact : Measures bs (number * 1000000) false = grind arith in
      let top : ceiling _ false ≤ largest = omega (arith, small) in (
        record {
          numeral = numeral;
          short = short;
          exponent = omega (arith, no_exponent);
          size = within bs _ false exact top;
        },
        exact,
        top,
      )
