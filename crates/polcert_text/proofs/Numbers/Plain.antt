-- A numeral of digits, a point and digits, read without its exponent.
use Rattle.std.proofs.Common.{◌≡◌, ◌∙◌, ◌⊎◌, ⊎_elim, ℕ, zero, suc, ◌+◌, ◌-◌, ◌*◌, ◌^◌, ◌<◌, ◌≤◌, min, Bool, true, false, List, [], ◌∷◌}
use Rattle.std.proofs.Common.{◌++◌, length, take, drop, take_all, get_or, refl, sym, ap, length-append, arith}
use Rattle.polcert_text.proofs.Common.{take-append-add, drop_all, take_more, digits_value_push, list_any, before_first}
use Rattle.polcert_text.proofs.Common.{after_first, digits_value, is_exponent_mark, class_of, is_numeral, without_sign}
use Rattle.polcert_text.proofs.Common.{whole_of, fraction_of, exponent_of, is_lowering, exponent_size, largest, IsReadable, size_cap}
use Rattle.polcert_text.proofs.Common.{is_nonzero}
use Rattle.polcert_text.proofs.Common.{ceiling, Measures, state_after, state_through, Digit, Point, State}
use Rattle.std.proofs.Math.Seq.{drop-append-add}
use Rattle.std.proofs.lemmas.List.{length-take-le, length-drop, append_assoc, get_or-drop, drop-drop}
use Rattle.polcert_text.proofs.Scanning.Tests.{digit_by, mark_by, point_by}
use Rattle.polcert_text.specs.declared.tokens.State.TheVariants as states
use Rattle.polcert_text.proofs.Scanning.LexemeLaws.{state_step}
use Rattle.polcert_text.proofs.Numbers.NumberLaws.{before_at, after_at, before_all, after_all, numeral_at_state, digit_is}
use Rattle.polcert_text.proofs.Numbers.SizeLaws.{parts_measure, exact_floor, within}

-- one more digit of a piece that begins at `from`
pub after_more : (front bs : List ℕ) (from at read : ℕ) → from ≤ at → at < length bs → class_of (get_or bs at 0) ≡ Digit
    → read ≡ digits_value 10 (front ++ take (at - from) (drop from bs))
    → read * 10 + (get_or bs at 0 - 48) ≡ digits_value 10 (front ++ take (at + 1 - from) (drop from bs))
after_more front bs from at read low high digit was =
    let n : ℕ = at - from in
    let d : ℕ = get_or bs at 0 in
    let long = length-drop from bs in
    let place : from + n ≡ at = omega arith in
    let byte = get_or-drop from bs n 0 ∙ ap (λ k. get_or bs k 0) place in
    let more =
    take_more _ n 0 (omega arith) in
    let next : at + 1 - from ≡ n + 1 = omega arith in
    (λ i. was i * 10 + sym (digit_is d (digit_by d digit)) i)
    ∙ sym (digits_value_push 10 (front ++ take n (drop from bs)) d)
    ∙ ap (digits_value 10) (sym (ap (λ k. front ++ take k (drop from bs)) next
    ∙ ap (λ xs. front ++ xs) (more ∙ ap (λ b. take n (drop from bs) ++ b ∷ []) byte)
    ∙ sym (append_assoc front (take n (drop from bs)) (d ∷ []))))

-- the bytes are digits, a point at p, and digits; on one side of the point there may be none
pub record IsPlain (bs : List ℕ) (p : ℕ) : Type 0 where
  pub inside : p < length bs
  pub some : (0 < p) ⊎ (1 < length bs)
  pub first : (k : ℕ) → 0 ≤ k → k < p → class_of (get_or bs k 0) ≡ Digit
  pub point : class_of (get_or bs p 0) ≡ Point
  pub second : (k : ℕ) → p + 1 ≤ k → k < length bs → class_of (get_or bs k 0) ≡ Digit

pub side : (k p : ℕ) → (k < p) ⊎ ((k ≡ p) ⊎ (p + 1 ≤ k))
side = grind arith

module _ (bs : List ℕ) where
  pub run : (from n : ℕ) (state : State) → from + n ≤ length bs → state_after state Digit ≡ state
      → state_through states.Start (take from bs) ≡ state → ((k : ℕ) → k < n → class_of (get_or bs (from + k) 0) ≡ Digit)
      → state_through states.Start (take (from + n) bs) ≡ state
  run from zero state h on was digits = grind arith
  run from (suc n) state h on was digits =
      let before = run from n state (omega arith) on was (λ k l. digits k (omega arith)) in
      ap (λ k. state_through states.Start (take k bs)) (omega arith)
      ∙ state_step bs (from + n) state Digit state (omega arith) before (sym (digits n (omega arith))) (sym on)

  -- a point and digits
  point_read : (p n : ℕ) → p ≡ 0 → 1 < n → n ≤ length bs → class_of (get_or bs p 0) ≡ Point
      → ((k : ℕ) → p + 1 ≤ k → k < n → class_of (get_or bs k 0) ≡ Digit) → state_through states.Start (take n bs) ≡ states.Fraction
  point_read p n none more high point second =
      let first : class_of (get_or bs 0 0) ≡ Point = cc in
      let begun =
      state_step bs 0 _ Point _ (omega arith) refl (sym first) refl in
      let all : 2 + (n - 2) ≡ n = omega arith in
      ap (λ k. state_through states.Start (take k bs)) (sym all)
      ∙ run 2 (n - 2) states.Fraction (omega arith) refl (state_step bs 1 states.Point Digit states.Fraction (omega arith) begun
      (sym (second 1 (omega arith) (omega arith))) refl) (λ k l. second (2 + k) (omega arith) (omega arith))

  -- digits, a point and digits
  whole_point_read : (p n : ℕ) → 0 < p → p + 1 ≤ n → n ≤ length bs
      → ((k : ℕ) → 0 ≤ k → k < p → class_of (get_or bs k 0) ≡ Digit) → class_of (get_or bs p 0) ≡ Point
      → ((k : ℕ) → p + 1 ≤ k → k < n → class_of (get_or bs k 0) ≡ Digit) → state_through states.Start (take n bs) ≡ states.Fraction
  whole_point_read p n some low high first point second =
      let begun =
      state_step bs 0 states.Start Digit _ (omega arith) refl (sym (first 0 (omega arith) some)) refl in
      let to_point = run 1 (p - 1) _ (omega arith) refl begun (λ k l. first (1 + k) (omega arith) (omega arith)) in
      let at : 1 + (p - 1) ≡ p = omega arith in
      let there : state_through states.Start (take p bs) ≡ states.Whole = cc in
      let following = state_step bs p _ Point states.Fraction (omega arith) there (sym point) refl in
      ap (λ k. state_through states.Start (take k bs)) (sym (omega arith))
      ∙ run (p + 1) (n - (p + 1)) states.Fraction (omega arith) refl following (λ k l. second (p + 1 + k) (omega arith) (omega arith))

pub none_or_some : (p : ℕ) → (p ≡ 0) ⊎ (0 < p)
none_or_some = grind arith

-- either
pub plain_read : (bs : List ℕ) (p n : ℕ) → ((0 < p) ⊎ (1 < n)) → p + 1 ≤ n → n ≤ length bs
    → ((k : ℕ) → 0 ≤ k → k < p → class_of (get_or bs k 0) ≡ Digit) → class_of (get_or bs p 0) ≡ Point
    → ((k : ℕ) → p + 1 ≤ k → k < n → class_of (get_or bs k 0) ≡ Digit) → state_through states.Start (take n bs) ≡ states.Fraction
plain_read bs p n some low high first point second =
    ⊎_elim (λ none. point_read bs p n none (⊎_elim (λ whole. absurd (omega arith)) (λ more. more) some) high point second)
    (λ whole. whole_point_read bs p n whole low high first point second) (none_or_some p)

pub at_or_after : (k n : ℕ) → (k < n) ⊎ (n ≤ k)
at_or_after = grind arith

below_ceiling : (floor : ℕ) (is_inexact : Bool) → floor < largest → ceiling floor is_inexact ≤ largest
below_ceiling = grind arith

module _ (bs : List ℕ) (p : ℕ) (plain : IsPlain bs p) where
  mantissa : before_first is_exponent_mark bs ≡ bs
  mantissa = before_all _ bs (grind (arith, ⊎_elim, mark_by, side))

  exponent : exponent_of bs ≡ []
  exponent = after_all _ bs (grind (arith, ⊎_elim, mark_by, side))

  whole : whole_of bs ≡ take p bs
  whole = ap (before_first _) mantissa ∙ before_at _ bs p plain.inside
      (λ k l. point_by _ (plain.first k (omega arith) l)) (point_by _ plain.point)

  fraction : fraction_of bs ≡ drop (p + 1) bs
  fraction = ap (after_first _) mantissa ∙ after_at _ bs p plain.inside
      (λ k l. point_by _ (plain.first k (omega arith) l)) (point_by _ plain.point)

  numeral : is_numeral bs ≡ true
  numeral =
      let done = plain_read bs p _ plain.some (omega arith) (omega arith) plain.first plain.point plain.second in
      sym (numeral_at_state bs _ (ap (state_through _) (sym (take_all (length bs) bs (omega arith))) ∙ done))

  no_exponent : exponent_size bs ≡ 0
  unfolding exponent_size
  no_exponent = ap (λ xs. digits_value 10 (without_sign xs)) exponent

  -- what is kept: the digits before the point, and six after it, or all
  pub plain_measures : (number floor kept : ℕ) (is_inexact : Bool) → length bs ≤ 400 → kept ≡ min (length bs) (p + 7)
      → number ≡ digits_value 10 (take p bs ++ take (kept - (p + 1)) (drop (p + 1) bs)) → number ≤ largest
      → ((n : ℕ) → number ≡ min size_cap n → floor ≡ min size_cap (n * 10 ^ (p + 7 - kept))) → floor < largest
      → is_inexact ≡ list_any is_nonzero (drop kept bs) → IsReadable bs × Measures bs floor is_inexact
      × (ceiling floor is_inexact ≤ largest)
  plain_measures number floor kept is_inexact short kept_is value below zeros small inexact =
      let w = take p bs in
      let f : List ℕ = drop (p + 1) bs in
      let long_w = length-take-le p bs (omega (arith, plain.inside)) in
      let long_f = length-drop (p + 1) bs in
      let long : length (w ++ f) ≡ p + (length bs - (p + 1)) = length-append w f ∙ (λ i. long_w i + long_f i) in
      let following : p + 6 ≡ length w + 6 = omega arith in
      let front : take (p + 6) (w ++ f) ≡ w ++ take (kept - (p + 1)) f =
      ap (λ n. take n (w ++ f)) following ∙ take-append-add w f 6
      ∙ ap (λ xs. w ++ xs) (grind (arith, ⊎_elim, take_all, at_or_after)) in
      let seventh : p + 1 + 6 ≡ p + 7 = omega arith in
      let rest : drop (p + 6) (w ++ f) ≡ drop kept bs =
      ap (λ n. drop n (w ++ f)) following ∙ drop-append-add w f 6 ∙ drop-drop 6 (p + 1) bs ∙ ap (λ n. drop n bs) seventh
      ∙ grind (arith, ⊎_elim, drop_all, at_or_after) in
      let left : p + 6 - length (w ++ f) ≡ p + 7 - kept = omega arith in
      let size : ℕ = digits_value 10 (take (p + 6) (w ++ f)) * 10 ^ _ in
      let measures : Measures bs size is_inexact = parts_measure bs w f false 0 (p + 6) _ numeral short (sym whole) (sym fraction)
      (sym (ap is_lowering exponent)) (sym no_exponent) (omega arith) (omega arith)
      (inexact ∙ ap (list_any is_nonzero) (sym rest)) in
      let size_is = (λ i. digits_value 10 (front i) * 10 ^ left i)
      ∙ ap (λ n. n * 10 ^ (p + 7 - kept)) (sym value) in
      let floor_is = zeros number (omega arith) ∙ ap (min size_cap) (sym size_is) in
      let top = below_ceiling floor _ small in
      let exact = exact_floor bs size floor is_inexact measures floor_is top in (
        record {
          numeral = numeral;
          short = short;
          exponent = omega (arith, no_exponent);
          size = within bs floor _ exact top;
        },
        exact,
        top,
      )

pub below_or_at : (k n : ℕ) → k < n + 1 → (k < n) ⊎ (k ≡ n)
below_or_at = grind arith
