-- Numerals that end within some bytes, and their values.
use Rattle.std.proofs.Common.{◌≡◌, ◌∙◌, ◌⊎◌, ⊎_elim, ℕ, suc, ◌+◌, ◌-◌, ◌*◌, ◌^◌, ◌<◌, ◌≤◌, ◌&&◌, ◌||◌, min, true, false, List, [], ◌∷◌}
use Rattle.std.proofs.Common.{length, take, drop, get_or, pos, refl, sym, ap, arith}
use Rattle.polcert_text.proofs.Common.{list_all, list_any, is_digit, class_of, glue_class, is_glued, are_digits, largest, IsExact, size_cap}
use Rattle.polcert_text.proofs.Common.{Measures, state_through, ByteClass, Digit, Start, Whole, Numeral}
use Rattle.std.proofs.lemmas.List.{get_or-take, get_or-drop, length-take-le, length-drop}
use Rattle.polcert_text.specs.declared.bytes.ByteClass.TheVariants.{Blank, LineEnd}
use Rattle.polcert_text.proofs.Numbers.MeasureLaws.{ten_pos, and-true_left}
use Rattle.polcert_text.proofs.Numbers.Plain.{run}
use Rattle.polcert_text.proofs.Scanning.Runs.{begins_whole}
use Rattle.polcert_text.proofs.Scanning.Tests.{digit_by, glue_by}

-- each byte of these is a digit
abbrev pub AreDigitsAt : List ℕ → ℕ → ℕ → Type 0
AreDigitsAt bs from until = (k : ℕ) → from ≤ k → k < until → class_of (get_or bs k 0) ≡ Digit

pub all_of_each : (bs : List ℕ) → ((k : ℕ) → k < length bs → is_digit (get_or bs k 0) ≡ true) → list_all is_digit bs ≡ true
all_of_each [] each = refl
all_of_each (b ∷ bs) each = (λ i. each 0 (omega arith) i && all_of_each bs (λ k below. each (suc k) (omega arith)) i)

pub some_digits : (bs : List ℕ) → 0 < length bs → list_all is_digit bs ≡ true → are_digits bs ≡ true
some_digits [] some all = absurd (omega arith)
some_digits (b ∷ bs) some all = (λ i. all i && (and-true_left (is_digit b) _ all i || list_any is_digit bs))

-- digits are read as the whole part of a numeral
pub whole_read : (bs : List ℕ) (p : ℕ) → 0 < p → p ≤ length bs → AreDigitsAt bs 0 p → state_through Start (take p bs) ≡ Whole
whole_read bs p some high digits =
    let begun = begins_whole bs (omega arith) (digits 0 (omega arith) some) in
    ap (λ k. state_through Start (take k bs)) (sym (omega arith))
    ∙ run bs 1 (p - 1) Whole (omega arith) refl begun (λ k l. digits (1 + k) (omega arith) (omega arith))

blank_no_glue : (c : ByteClass) → ((c ≡ Blank) ⊎ (c ≡ LineEnd)) → glue_class c ≡ false
blank_no_glue c h = ⊎_elim (ap glue_class) (ap glue_class) h

glued_at : (bs : List ℕ) → 0 < length bs → is_glued Numeral bs ≡ glue_class (class_of (get_or bs 0 0))
glued_at = grind (arith, glue_by)

-- nor is one that such a byte follows
pub apart_after : (bs : List ℕ) (n : ℕ) → n < length bs → glue_class (class_of (get_or bs n 0)) ≡ false
    → is_glued Numeral (drop n bs) ≡ false
apart_after = grind (arith, get_or-drop, length-drop, glued_at)

-- a numeral that a blank follows is not glued to it
pub blank_after : (bs : List ℕ) (n : ℕ) → n < length bs → ((class_of (get_or bs n 0) ≡ Blank) ⊎ (class_of (get_or bs n 0) ≡ LineEnd))
    → is_glued Numeral (drop n bs) ≡ false
blank_after = grind (arith, get_or-drop, length-drop, blank_no_glue, glued_at)

digits_in_front : (bs : List ℕ) (n from until : ℕ) → until ≤ n → AreDigitsAt bs from until → AreDigitsAt (take n bs) from until
digits_in_front bs n from until few digits = λ k low below. ap class_of (get_or-take n bs k 0 (omega arith)) ∙ digits k low below

-- so many digits
pub digits_there : (bs : List ℕ) (n : ℕ) → 0 < n → n ≤ length bs → AreDigitsAt bs 0 n → are_digits (take n bs) ≡ true
digits_there = grind (arith, length-take-le, digit_by, all_of_each, some_digits, digits_in_front)

-- what was measured exactly
pub measured_exactly : (bs : List ℕ) (floor : ℕ) → Measures bs floor false → IsExact false bs (pos floor)
measured_exactly = grind arith

-- a number is at most what it is with zeros at its end
pub below_scaled : (number k floor : ℕ) → floor ≡ number * 10 ^ k → floor < largest → number ≤ largest
below_scaled = grind (arith, ten_pos)

-- a number below the limit, with zeros at its end
pub unscaled : (number zeros floor : ℕ) → number ≤ largest → floor ≡ number * 10 ^ zeros → floor < largest → (m : ℕ)
    → number ≡ min size_cap m
    → floor ≡ min size_cap (m * 10 ^ zeros)
unscaled number zeros floor below is small m capped =
    let same : m ≡ number = omega arith in
    (omega arith) ∙ ap (λ k. min size_cap (k * 10 ^ zeros)) (sym same)
