-- The size of a numeral, from its digits.
use Rattle.std.proofs.Common.{◌≡◌, ◌∙◌, ℕ, ◌+◌, ◌-◌, ◌*◌, ◌^◌, ◌<◌, ◌≤◌, min, Bool, true, false, ◌&&◌, inl, List, [], ◌∷◌, ◌++◌, length}
use Rattle.std.proofs.Common.{take, drop, refl, ap, subst, arith, length-append}
use Rattle.std.specs.Prelude.{if◌then◌else◌}
use Rattle.polcert_text.proofs.Common.{list_all, list_any, before_first, after_first, position_or_len, digits_value, one-le-pow}
use Rattle.polcert_text.proofs.Common.{list_all-append, is_digit, is_exponent_mark, is_point, without_sign, is_numeral, whole_of}
use Rattle.polcert_text.proofs.Common.{fraction_of, exponent_of, is_lowering, significand, exponent_size, power_of, size_of, millionth}
use Rattle.polcert_text.proofs.Common.{largest, size_cap, is_nonzero, IsScaled, ceiling, Measures}
use Rattle.std.proofs.Math.Nat.{mul-le-mul_right}
use Rattle.std.proofs.lemmas.List.{length-take, length-drop}
use Rattle.polcert_text.proofs.Scanning.BeforeFirst.{after_first-pass}
use Rattle.polcert_text.proofs.Numbers.MeasureLaws.{and-true_left, and-true_right, Fits, measure}

module _ (p : ℕ → Bool) (bs : List ℕ) where
  length-before : length (before_first p bs) ≤ length bs
  length-before = omega (arith, length-take (position_or_len p bs) bs)

  length-after : length (after_first p bs) ≤ length bs
  length-after = omega (arith, length-drop (position_or_len p bs + 1) bs)

pub length-whole : (bs : List ℕ) → length (whole_of bs) ≤ length bs
length-whole bs = let inner = length-before is_point (before_first is_exponent_mark bs) in let outer =
    length-before is_exponent_mark bs in omega arith

pub length-fraction : (bs : List ℕ) → length (fraction_of bs) ≤ length bs
length-fraction bs = let inner = length-after is_point (before_first is_exponent_mark bs) in let outer =
    length-before is_exponent_mark bs in omega arith

pub whole_digits : (bs : List ℕ) → is_numeral bs ≡ true → list_all is_digit (whole_of bs) ≡ true
whole_digits = grind arith

pub fraction_digits : (bs : List ℕ) → is_numeral bs ≡ true → list_all is_digit (fraction_of bs) ≡ true
fraction_digits = grind arith

pub after-none : (p : ℕ → Bool) (bs : List ℕ) → list_any p bs ≡ false → after_first p bs ≡ []
after-none p [] h = refl
after-none p (b ∷ bs) h = grind (arith, after_first-pass, after-none p bs)

pub exponent_digits : (bs : List ℕ) → is_numeral bs ≡ true → list_all is_digit (without_sign (exponent_of bs)) ≡ true
exponent_digits = grind (arith, and-true_left, and-true_right, after-none)

-- how many digits are kept
abbrev pub kept_of : List ℕ → ℕ
kept_of bs = if is_lowering (exponent_of bs) then length (whole_of bs) + 6 - exponent_size bs else length (whole_of bs) + 6
    + exponent_size bs

abbrev pub digits_of : List ℕ → List ℕ
digits_of bs = whole_of bs ++ fraction_of bs

lowering_fits : (w f x len : ℕ) → len ≡ w + f → f ≤ 400 → x ≤ 400 → Fits 994 (w + 6 - x) len (1000 - x - f)
lowering_fits = grind arith

raising_fits : (w f x len : ℕ) → len ≡ w + f → f ≤ 400 → x ≤ 400 → Fits 994 (w + 6 + x) len (1000 + x - f)
raising_fits w f x len is a b = inl (omega arith)

power_fits : (bs : List ℕ) → length bs ≤ 400 → exponent_size bs ≤ 400 → Fits 994 (kept_of bs) (length (digits_of bs)) (power_of bs)
unfolding power_of
power_fits = grind (arith, length-append, length-fraction, lowering_fits, raising_fits)

pub numeral_measure : (bs : List ℕ) → is_numeral bs ≡ true → length bs ≤ 400 → exponent_size bs ≤ 400
    → Measures bs (digits_value 10 (take (kept_of bs) (digits_of bs)) * 10 ^ (kept_of bs - length (digits_of bs)))
    (list_any is_nonzero (drop (kept_of bs) (digits_of bs)))
unfolding size_of significand millionth
numeral_measure bs numeral short small =
    let part = measure (digits_of bs) (list_all-append is_digit (whole_of bs) (fraction_of bs)
    ∙ (λ i. whole_digits bs numeral i && fraction_digits bs numeral i)) 994 (power_of bs) (kept_of bs) (power_fits bs short small) in
    record { part = part.part; size = part.size_is; below = part.below; exact = part.exact; inexact = part.inexact }

-- reading no digit yet
pub scaled_none : (kept : ℕ) → IsScaled kept [] (record { floor = 0; left = kept; is_inexact = false })
scaled_none = grind arith

pub millionth_pos : 0 < millionth
unfolding millionth
millionth_pos = one-le-pow 994 10 (omega arith)

module _ (bs : List ℕ) where
  pub beyond : (size floor : ℕ) (is_inexact : Bool) → Measures bs size is_inexact → floor ≡ min size_cap size
      → largest < ceiling floor is_inexact → largest * millionth < size_of bs
  beyond size floor true m is more = grind (arith, mul-le-mul_right)
  beyond size floor false m is more =
      let at : largest + 1 ≤ size = omega arith in
      omega (arith, mul-le-mul_right millionth at, m.size, millionth_pos)

  pub within : (floor : ℕ) (is_inexact : Bool) → Measures bs floor is_inexact → ceiling floor is_inexact ≤ largest
      → size_of bs ≤ largest * millionth
  within = grind (arith, mul-le-mul_right)

  pub exact_floor : (size floor : ℕ) (is_inexact : Bool) → Measures bs size is_inexact → floor ≡ min size_cap size
      → ceiling floor is_inexact ≤ largest → Measures bs floor is_inexact
  exact_floor size floor is_inexact m is small = subst (λ n. Measures bs n is_inexact) (grind arith) m

  -- the same of the parts that the code has
  pub parts_measure : (whole fraction : List ℕ) (lowers : Bool) (exponent kept : ℕ) (is_inexact : Bool) → is_numeral bs ≡ true
      → length bs ≤ 400 → whole ≡ whole_of bs → fraction ≡ fraction_of bs → lowers ≡ is_lowering (exponent_of bs)
      → exponent ≡ exponent_size bs → exponent ≤ 400 → kept ≡ (if lowers then length whole + 6 - exponent else length whole + 6 + exponent)
      → is_inexact ≡ list_any is_nonzero (drop kept (whole ++ fraction))
      → Measures bs (digits_value 10 (take kept (whole ++ fraction)) * 10 ^ (kept - length (whole ++ fraction))) is_inexact
  parts_measure whole _ lowers _ kept _ numeral short whole_is fraction_is lowers_is exponent_is small kept_is
      inexact_is = grind (arith, numeral_measure)

pub capped_exponent : (bs digits : List ℕ) (e : ℕ) → digits ≡ without_sign (exponent_of bs) → e ≡ min 401 (digits_value 10 digits)
    → e ≡ min 401 (exponent_size bs)
unfolding exponent_size
capped_exponent bs digits e is at = at ∙ ap (λ ds. min 401 (digits_value 10 ds)) is
