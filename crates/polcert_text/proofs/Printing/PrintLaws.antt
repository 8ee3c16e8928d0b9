-- The text of a number of millionths is a numeral of just that value.
use Rattle.std.proofs.Common.{◌≡◌, ◌∙◌, ℕ, suc, zero, ◌+◌, ◌-◌, ◌*◌, ◌/◌, ◌%◌, ◌^◌, ◌<◌, ◌≤◌, Bool, true, false, cond, ◌&&◌, List, []}
use Rattle.std.proofs.Common.{◌∷◌, ◌++◌, length, refl, sym, ap, subst, arith, decimal, append-nil, ℤ, pos, negsuc}
use Rattle.polcert_text.proofs.Common.{ints, digit_value, list_all, list_any, before_first, after_first, digits_value, digits_value_after}
use Rattle.polcert_text.proofs.Common.{nat_tests, list_all-append, list_any-append, decimal_nonempty, is_digit, is_point, is_exponent_mark}
use Rattle.polcert_text.proofs.Common.{without_sign, is_numeral, whole_of, fraction_of, exponent_of, is_lowering, significand}
use Rattle.polcert_text.proofs.Common.{exponent_size}
use Rattle.polcert_text.proofs.Common.{power_of, size_of, millionth, signed, IsExact, decimals, fraction_text, unsigned_text}
use Rattle.std.proofs.lemmas.Fmt.{decimal_by_steps, decimal_is_IsNumeral}
use Rattle.polcert_text.specs.Numbers.{DenotesNumber}
use Rattle.polcert_text.specs.Millionths.{scaled_text}
use mir.Val.{SFits}
use mir.Syntax.{w64}
use Rattle.std.specs.Prelude.{◌==◌}
use Rattle.std.proofs.lemmas.Nat.{pow-add, div-add-mod'}
use Rattle.std.proofs.Math.Nat.{mod-lt, mul_assoc}
use Rattle.polcert_text.proofs.Scanning.BeforeFirst.{before_first-stop, before_first-pass, after_first-stop, after_first-pass}
use Rattle.polcert_text.proofs.Numbers.MeasureLaws.{and-true_left, and-true_right, value_after, value-append, ten_pos}
use Rattle.polcert_text.proofs.Numbers.SizeLaws.{after-none}
use Rattle.polcert_text.proofs.Numbers.SignedLaws.{signed-mul}
use Rattle.polcert_text.proofs.Numbers.DecimalLaws.{decimals-zero, digit_below_suc}

is_digit-yes : (b : ℕ) → 48 ≤ b → b ≤ 57 → is_digit b ≡ true
unfolding is_digit
is_digit-yes = grind arith

pub decimal_digits : (n : ℕ) → n < 2 ^ 64 → list_all is_digit (decimal n) ≡ true
decimal_digits n h =
    decimal_by_steps (λ _ ds. list_all is_digit ds ≡ true) (λ n l. λ i. is_digit-yes (48 + n) (omega arith) (omega arith) i && true)
    (λ n ds l before. list_all-append _ ds _
    ∙ (λ i. before i && (is_digit-yes (48 + n % 10) (omega arith) (omega arith) i && true))) n h

pub decimals_digits : (k r : ℕ) → r < 10 ^ k → list_all is_digit (decimals k r) ≡ true
unfolding decimals
decimals_digits zero r h = refl
decimals_digits (suc k) r h = at (r == 0) refl (decimals_digits k _ (mod-lt r (ten_pos k)))
  where
    at : (z : Bool) → (r == 0) ≡ z → list_all is_digit (decimals k (r % 10 ^ k)) ≡ true
        → list_all is_digit (cond (r == 0) [] ((48 + r / 10 ^ k) ∷ decimals k (r % 10 ^ k))) ≡ true
    at true e more = simp e
    at false e more =
        let small = digit_below_suc k r h in
        simp e (λ i. is_digit-yes (48 + r / 10 ^ k) (omega arith) (omega arith) i && more i)

-- the value of the decimals, with zeros up to k places
record Decimals (k r : ℕ) (ds : List ℕ) : Type 0 where
  few : length ds ≤ k
  value : digits_value 10 ds * 10 ^ (k - length ds) ≡ r

cons_value : (k q rest : ℕ) (ds : List ℕ) → q < 10 → Decimals k rest ds → Decimals (suc k) (q * 10 ^ k + rest) ((48 + q) ∷ ds)
cons_value k q rest ds h was =
    let left = k - length ds in
    let fewer : suc k - length ((48 + q) ∷ ds) ≡ left = omega arith in
    let digit : 0 * 10 + digit_value (48 + q) ≡ q = grind arith in
    let value = ap (λ n. digits_value_after 10 n ds) digit
    ∙ value_after q ds in
    let places : length ds + left ≡ k = omega arith in
    let power = mul_assoc q _ _
    ∙ ap (λ n. q * n) (sym (pow-add 10 _ left)) ∙ ap (λ n. q * 10 ^ n) places in
    let scaled =
    ap (λ v. v * 10 ^ left) value in
    record {
      few = omega arith;
      value = ap (λ n. digits_value 10 ((48 + q) ∷ ds) * 10 ^ n) fewer ∙ omega arith;
    }

decimals_value : (k r : ℕ) → r < 10 ^ k → Decimals k r (decimals k r)
unfolding decimals
decimals_value zero r h = record { few = omega arith; value = omega arith }
decimals_value (suc k) r h = at (r == 0) refl (decimals_value k _ (mod-lt r (ten_pos k)))
  where
    at : (z : Bool) → (r == 0) ≡ z → Decimals k (r % 10 ^ k) (decimals k (r % 10 ^ k))
        → Decimals (suc k) r (cond (r == 0) [] ((48 + r / 10 ^ k) ∷ decimals k (r % 10 ^ k)))
    at true e more = let none : r ≡ 0 = grind (arith, nat_tests) in simp e (record { few = omega arith; value = omega arith })
    at false e more =
        simp e (subst (λ n. Decimals (suc k) n ((48 + r / 10 ^ k) ∷ decimals k (r % 10 ^ k))) (div-add-mod' r (10 ^ k))
        (cons_value k (r / 10 ^ k) (r % 10 ^ k) (decimals k (r % 10 ^ k)) (digit_below_suc k r h) more))

module _ (p : ℕ → Bool) where
  none_among : ((b : ℕ) → is_digit b ≡ true → p b ≡ false) → (ds : List ℕ) → list_all is_digit ds ≡ true
      → list_any p ds ≡ false
  none_among other [] h = refl
  none_among other (d ∷ ds) h =
      let first = other d (and-true_left _ _ h) in
      simp first (none_among other ds (and-true_right _ _ h))

  before-none : (bs : List ℕ) → list_any p bs ≡ false → before_first p bs ≡ bs
  before-none [] h = refl
  before-none (b ∷ bs) h = grind (arith, before_first-pass, before-none bs)

  before-at : (xs ys : List ℕ) (y : ℕ) → list_any p xs ≡ false → p y ≡ true → before_first p (xs ++ y ∷ ys) ≡ xs
  before-at [] ys y h e = before_first-stop p y ys e
  before-at (x ∷ xs) ys y h e = at (p x) refl (λ g. before-at xs ys y g e)
    where
      at : (t : Bool) → p x ≡ t → (list_any p xs ≡ false → before_first p (xs ++ y ∷ ys) ≡ xs)
          → before_first p (x ∷ (xs ++ y ∷ ys)) ≡ x ∷ xs
      at true f more = let g = h in let g2 = rw f at g in cc
      at false f more = before_first-pass p x (xs ++ y ∷ ys) f ∙ ap (λ xs. x ∷ xs) (more (rw f at h))

  after-at : (xs ys : List ℕ) (y : ℕ) → list_any p xs ≡ false → p y ≡ true → after_first p (xs ++ y ∷ ys) ≡ ys
  after-at [] ys y h e = after_first-stop p y ys e
  after-at (x ∷ xs) ys y h e = at (p x) refl (λ g. after-at xs ys y g e)
    where
      at : (t : Bool) → p x ≡ t → (list_any p xs ≡ false → after_first p (xs ++ y ∷ ys) ≡ ys) → after_first p (x ∷ (xs ++ y ∷ ys)) ≡ ys
      at true f more = let g = h in let g2 = rw f at g in cc
      at false f more = after_first-pass p x (xs ++ y ∷ ys) f ∙ more (rw f at h)

-- how a text falls into parts
record FallsInto (text whole fraction : List ℕ) : Type 0 where
  no_exponent : list_any is_exponent_mark text ≡ false
  whole_is : before_first is_point text ≡ whole
  fraction_is : after_first is_point text ≡ fraction

mark_no_digit : (b : ℕ) → is_digit b ≡ true → is_exponent_mark b ≡ false
unfolding is_digit is_exponent_mark
mark_no_digit = grind arith

point_no_digit : (b : ℕ) → is_digit b ≡ true → is_point b ≡ false
unfolding is_digit is_point
point_no_digit = grind arith

point_is : is_point 46 ≡ true
unfolding is_point
point_is = refl

pub point_no_mark : is_exponent_mark 46 ≡ false
unfolding is_exponent_mark
point_no_mark = refl

falls_with_point : (whole fraction : List ℕ) → list_all is_digit whole ≡ true → list_all is_digit fraction ≡ true
    → FallsInto (whole ++ 46 ∷ fraction) whole fraction
falls_with_point = grind (arith, list_any-append, none_among, before-at, after-at, mark_no_digit, point_no_digit, point_is, point_no_mark)

text_falls : (w : List ℕ) (r : ℕ) → list_all is_digit w ≡ true → r < 1_000_000 → FallsInto (w ++ fraction_text r) w (decimals 6 r)
text_falls w r digits h = at (r == 0) refl
  where
    at : (z : Bool) → (r == 0) ≡ z → FallsInto (w ++ fraction_text r) w (decimals 6 r)
    at true e =
        let none : decimals 6 r ≡ [] = ap (decimals 6) (grind (arith, nat_tests)) ∙ decimals-zero 6 in
        let text : w ++ fraction_text r ≡ w = simp e (append-nil w) in
        rw text (subst (FallsInto w w) (sym none) (grind (arith, after-none, none_among, before-none, mark_no_digit, point_no_digit)))
    at false e = subst (λ t. FallsInto t w (decimals 6 r)) (sym (simp e)) (falls_with_point w (decimals 6 r) digits (decimals_digits 6 r h))

some_digit : (ds more : List ℕ) → 0 < length ds → list_all is_digit ds ≡ true → list_any is_digit (ds ++ more) ≡ true
some_digit [] more h a = absurd (omega arith)
some_digit (d ∷ ds) more h a = simp (and-true_left (is_digit d) _ a)

numeral_from_parts : (text whole fraction : List ℕ) → FallsInto text whole fraction → list_all is_digit whole ≡ true
    → list_all is_digit fraction ≡ true → list_any is_digit text ≡ true → is_numeral text ≡ true
numeral_from_parts = grind (arith, before-none)

scaled_up : (q v len r n e : ℕ) → len ≤ 6 → v * 10 ^ (6 - len) ≡ r → q * 1_000_000 + r ≡ n
    → (q * 10 ^ len + v) * 10 ^ (6 + e - len) ≡ n * 10 ^ e
scaled_up q v len r n e few value whole =
    let k = 6 - len in
    let split : 6 + e - len ≡ k + e = omega arith in
    let all : len + k ≡ 6 = omega arith in
    let s = q * 10 ^ len + v in
    let power = ap (λ p. s * 10 ^ p) split ∙ ap (λ p. s * p) (pow-add 10 k e)
    ∙ sym (mul_assoc s _ _) in
    let inner : s * 10 ^ k ≡ n = omega (
      arith,
      mul_assoc q (10 ^ len) (10 ^ k) ∙ ap (λ p. q * p) (sym (pow-add 10 len k))
          ∙ ap (λ p. q * 10 ^ p) all,
      value,
      whole,
    ) in
    power ∙ ap (λ p. p * 10 ^ e) inner

size_from_parts : (text whole fraction : List ℕ) (q r n : ℕ) → FallsInto text whole fraction → digits_value 10 whole ≡ q
    → Decimals 6 r fraction → q * 1_000_000 + r ≡ n → size_of text ≡ n * millionth
unfolding size_of significand power_of exponent_size millionth
size_from_parts text whole fraction q r n falls value was all =
    let text_is : before_first is_exponent_mark text ≡ text = before-none _ text falls.no_exponent in
    let w : whole_of text ≡ whole = cc in
    let f : fraction_of text ≡ fraction = cc in
    let none : exponent_of text ≡ [] = after-none _ text falls.no_exponent in
    let number : digits_value 10 (whole_of text ++ fraction_of text) ≡ q * 10 ^ length fraction + digits_value 10 fraction =
    (λ i. digits_value 10 (w i ++ f i)) ∙ value-append whole _
    ∙ ap (λ v. v * 10 ^ length fraction + digits_value 10 fraction) value in
    let power : cond (is_lowering (exponent_of text)) _
    (1000 + digits_value 10 (without_sign (exponent_of text)) - length (fraction_of text)) ≡ 1000 - length fraction =
    (λ i. cond (is_lowering (none i)) (1000 - digits_value 10 (without_sign (none i)) - length (f i))
    (1000 + digits_value 10 (without_sign (none i)) - length (f i))) in
    (λ i. number i * 10 ^ power i) ∙ scaled_up q _ (length fraction) r n 994 was.few was.value all

-- what is written of a size is a numeral of just that value
pub written_exact : (n : ℕ) → n < 2 ^ 64 → (negative : Bool) → (is_numeral (unsigned_text n) ≡ true)
    × IsExact negative (unsigned_text n) (signed negative n)
written_exact n h negative =
    let q = n / 1_000_000 in
    let r = n % 1_000_000 in
    let q_small : q < 2 ^ 64 = omega arith in
    let r_small : r < 1_000_000 = omega arith in
    let split : q * 1_000_000 + r ≡ n = omega arith in
    let digits = decimal_digits q q_small in
    let falls = text_falls _ r digits r_small in
    let size = size_from_parts _ _ _ q r n falls (decimal_is_IsNumeral q q_small).1
    (decimals_value 6 r r_small) split in (
      numeral_from_parts _ _ _ falls digits (decimals_digits 6 r r_small) (some_digit _ _ (decimal_nonempty q q_small) digits),
      signed-mul _ n _ ∙ ap (signed _) (sym size),
    )

-- what is written of a number of millionths denotes it
pub scaled_denotes : (h : ℤ) → SFits w64 h → DenotesNumber (scaled_text h) h
scaled_denotes (pos n) fits =
    let small : n < 2 ^ 64 = omega arith in
    let written = written_exact n small false in
    (false, (_, refl, written.0, written.1))
scaled_denotes (negsuc n) fits =
    let written = written_exact (suc n) (omega (arith, ints, fits.sfits)) true in
    (true, (unsigned_text (suc n), refl, written.0, written.1))
