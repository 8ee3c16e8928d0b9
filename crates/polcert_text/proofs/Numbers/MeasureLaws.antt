-- Digits as a number, cut off after the millionths.
use Rattle.std.proofs.Common.{◌≡◌, ◌∙◌, ℕ, suc, ◌+◌, ◌-◌, ◌*◌, ◌^◌, ◌<◌, ◌≤◌, Bool, true, false, ◌&&◌, ◌⊎◌, inl, inr, ⊎_elim}
use Rattle.std.proofs.Common.{List, [], ◌∷◌, ◌++◌, length, take, drop, refl, sym, ap, arith}
use Rattle.std.specs.Prelude.{◌==◌}
use Rattle.polcert_text.proofs.Common.{digit_value, list_all, list_any, digits_value, digits_value_after, pow-le-pow_right}
use Rattle.polcert_text.proofs.Common.{one-le-pow, drop_all, list_all-append, is_digit, is_nonzero}
use Rattle.std.specs.Str.Parse.{AllDigits}
use Rattle.std.proofs.Math.Nat.{pow-suc, mul-pos, mul-lt-mul_of_pos_right, mul_assoc}
use Rattle.std.proofs.lemmas.List.{take-append-drop, length-drop, take_all}
use Rattle.std.proofs.lemmas.Nat.{pow-add}
use Rattle.std.proofs.lemmas.Int.Digits.{digits_value-lt}
use Rattle.polcert_text.proofs.Numbers.NumberLaws.{true≢false, digit_from, digit_to, digit_is}

pub order : (m n : ℕ) → (m ≤ n) ⊎ (n < m)
order = grind arith

pub ten_pos : (k : ℕ) → 0 < 10 ^ k
ten_pos k = one-le-pow k 10 (omega arith)

pub value_after : (n : ℕ) (ds : List ℕ) → digits_value_after 10 n ds ≡ n * 10 ^ length ds + digits_value_after 10 0 ds
value_after n [] = omega arith
value_after n (c ∷ cs) =
    let d = digit_value c in
    let p = 10 ^ length cs in
    let with_n = value_after (n * 10 + d) cs in
    let power : n * 10 ^ suc (length cs) ≡ n * (p * 10) = ap (λ q. n * q) (pow-suc 10 (length cs)) in
    omega (arith, with_n, value_after (0 * 10 + d) cs, power)

value_after-append : (n : ℕ) (xs ys : List ℕ) → digits_value_after 10 n (xs ++ ys) ≡ digits_value_after 10 (digits_value_after 10 n xs) ys
value_after-append n [] ys = refl
value_after-append n (x ∷ xs) ys = value_after-append (n * 10 + digit_value x) xs ys

pub value-append : (xs ys : List ℕ) → digits_value 10 (xs ++ ys) ≡ digits_value 10 xs * 10 ^ length ys + digits_value 10 ys
value-append xs ys = value_after-append 0 xs ys ∙ value_after _ ys

pub and-true_left : (x y : Bool) → (x && y) ≡ true → x ≡ true
and-true_left = grind arith

pub and-true_right : (x y : Bool) → (x && y) ≡ true → y ≡ true
and-true_right = grind arith

all_digits : (ds : List ℕ) → list_all is_digit ds ≡ true → AllDigits 10 ds
all_digits [] h = tt
all_digits (c ∷ cs) h =
    let first = and-true_left _ _ h in
    let value = digit_is c first in
    let top = digit_to c first in
    (omega arith, all_digits cs (and-true_right _ _ h))

value_lt : (ds : List ℕ) → list_all is_digit ds ≡ true → digits_value 10 ds < 10 ^ length ds
value_lt ds h = digits_value-lt 10 ds (all_digits ds h)

is_zero : (c : ℕ) → (c == 48) ≡ true → c ≡ 48
is_zero = grind arith

not_zero : (c : ℕ) → (c == 48) ≡ false → c ≡ 48 → ⊥
not_zero = grind arith

value_zero : (ds : List ℕ) → list_any is_nonzero ds ≡ false → digits_value 10 ds ≡ 0
value_zero [] h = refl
value_zero (c ∷ cs) h =
    let first = is_zero c (grind arith) in
    let value = ap digit_value first in
    let zero_in : 0 * 10 + digit_value c ≡ 0 = omega arith in
    ap (λ n. digits_value_after 10 n cs) zero_in ∙ value_zero cs (grind arith)

value_pos : (ds : List ℕ) → list_all is_digit ds ≡ true → list_any is_nonzero ds ≡ true → 0 < digits_value 10 ds
value_pos [] a h = cc
value_pos (c ∷ cs) a h = at (c == 48) refl (λ more. value_pos cs (and-true_right _ _ a) more)
  where
    at : (z : Bool) → (c == 48) ≡ z → (list_any is_nonzero cs ≡ true → 0 < digits_value 10 cs)
        → 0 < digits_value_after 10 (0 * 10 + digit_value c) cs
    at true e rest =
        let first : c ≡ 48 = is_zero c e in
        let value = ap digit_value first in
        let zero_in : 0 * 10 + digit_value c ≡ 0 = omega arith in
        let positive = rest (grind arith) in
        omega (arith, ap (λ n. digits_value_after 10 n cs) zero_in, positive)
    at false e rest =
        let first = and-true_left _ _ a in
        let low = digit_from c first in
        let value = digit_is c first in
        let other = not_zero c e in
        let d = digit_value c in
        let more : 0 < 0 * 10 + d = omega arith in
        omega (arith, value_after (0 * 10 + d) cs, mul-pos more (ten_pos (length cs)))

-- a size is so many whole units of 10 ^ e, and a part of one more
pub record IsPart (size floor e : ℕ) (is_inexact : Bool) : Type 0 where
  pub part : ℕ
  pub size_is : size ≡ floor * 10 ^ e + part
  pub below : part < 10 ^ e
  pub exact : is_inexact ≡ false → part ≡ 0
  pub inexact : is_inexact ≡ true → 0 < part

-- the power is such that the first `kept` digits are whole units; or none is kept, and all together are less than one
abbrev pub Fits : ℕ → ℕ → ℕ → ℕ → Type 0
Fits e kept len power = (power + len ≡ e + kept) ⊎ ((kept ≡ 0) × (power + len ≤ e))

module _ (ds : List ℕ) (digits : list_all is_digit ds ≡ true) (e power : ℕ) where
  -- more digits are kept than there are
  measure_over : (kept : ℕ) → length ds ≤ kept → power + length ds ≡ e + kept
      → IsPart (digits_value 10 ds * 10 ^ power) (digits_value 10 (take kept ds) * 10 ^ (kept - length ds)) e
      (list_any is_nonzero (drop kept ds))
  measure_over kept over fits =
      let all = take_all kept ds over in
      let none = drop_all kept ds over in
      let left = kept - length ds in
      let split : power ≡ left + e = omega arith in
      let v = digits_value 10 ds in
      let product = ap (λ p. v * 10 ^ p) split ∙ ap (λ p. v * p) (pow-add 10 left e)
      ∙ sym (mul_assoc v _ _) in
      let same =
      ap (λ xs. digits_value 10 xs * 10 ^ left * 10 ^ e) (sym all) in
      record {
        part = 0;
        size_is = omega arith;
        below = ten_pos e;
        exact = λ _. refl;
        inexact = λ h. absurd (true≢false h (cc));
      }

  front_units : (kept j : ℕ) → j + kept ≡ length ds → Fits e kept (length ds) power
      → digits_value 10 (take kept ds) * 10 ^ j * 10 ^ power ≡ digits_value 10 (take kept ds) * 10 ^ e
  front_units kept j split (inl fits) =
      let v = digits_value 10 (take kept ds) in
      mul_assoc v (10 ^ j) (10 ^ power) ∙ ap (λ p. v * p) (sym (pow-add 10 j power)) ∙ ap (λ p. v * 10 ^ p) (omega arith)
  front_units kept j split (inr fits) = grind arith

  back_digits : (kept : ℕ) → list_all is_digit (drop kept ds) ≡ true
  back_digits kept =
      and-true_right _ _
      (sym (list_all-append _ (take kept ds) _) ∙ ap (list_all _) (take-append-drop kept ds) ∙ digits)

  -- some digits are cut off
  measure_cut : (kept : ℕ) → kept ≤ length ds → Fits e kept (length ds) power
      → IsPart (digits_value 10 ds * 10 ^ power) (digits_value 10 (take kept ds) * 10 ^ (kept - length ds)) e
      (list_any is_nonzero (drop kept ds))
  measure_cut kept inside fits =
      let j = length ds - kept in
      let front = digits_value 10 (take kept ds) in
      let back = digits_value 10 (drop kept ds) in
      let len = length-drop kept ds in
      let value : digits_value 10 ds ≡ front * 10 ^ j + back = ap (digits_value 10) (sym (take-append-drop kept ds))
      ∙ value-append (take kept ds) _ ∙ ap (λ n. front * 10 ^ n + back) len in
      let size : digits_value 10 ds * 10 ^ power ≡ (front * 10 ^ j + back) * 10 ^ power = cc in
      let units = front_units kept j (omega arith) fits in
      let nothing : kept - length ds ≡ 0 = omega arith in
      let whole : front * 10 ^ (kept - length ds) ≡ front = grind arith in
      let whole_e : front * 10 ^ (kept - length ds) * 10 ^ e ≡ front * 10 ^ e = cc in
      let small : back < 10 ^ j = rw (← len) (value_lt (drop kept ds) (back_digits kept)) in
      let scaled = mul-lt-mul_of_pos_right small (ten_pos power) in
      let within : j + power ≤ e = omega arith in
      let top : 10 ^ (j + power) ≤ 10 ^ e = pow-le-pow_right (omega arith) within in
      record {
        part = _;
        size_is = omega (arith, size, units, whole_e);
        below = omega (arith, scaled, pow-add 10 j power, top);
        exact = λ h. ap (λ n. n * 10 ^ power) (value_zero (drop kept ds) h) ∙ omega arith;
        inexact = λ h. mul-pos (value_pos _ (back_digits kept) h) (ten_pos power);
      }

  pub measure : (kept : ℕ) → Fits e kept (length ds) power
      → IsPart (digits_value 10 ds * 10 ^ power) (digits_value 10 (take kept ds) * 10 ^ (kept - length ds)) e
      (list_any is_nonzero (drop kept ds))
  measure = grind (arith, ⊎_elim, order, measure_over, measure_cut)
