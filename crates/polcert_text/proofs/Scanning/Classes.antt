-- The classes of some bytes.
use Rattle.std.proofs.Common.{◌≡◌, ℕ, zero, suc, ◌+◌, ◌-◌, ◌<◌, ◌≤◌, ◌==◌, ◌&&◌, ◌||◌, ◌⊎◌, Bool, true, false, cond, refl, arith}
use Rattle.std.proofs.Common.{inl, inr}
use Rattle.std.specs.Prelude.{IsTrue}
use Rattle.std.proofs.lemmas.Bool.{and_parts, cases_lt}
use Rattle.polcert_text.proofs.Common.{class_of, blank_class, hash_class, digit_class, letter_class, ByteClass}
use Rattle.polcert_text.specs.declared.bytes.ByteClass.TheVariants as classes

pub from_true : (b : Bool) → IsTrue b → b ≡ true
from_true b h = h

pub blank_at_32 : class_of 32 ≡ classes.Blank
unfolding class_of
blank_at_32 = refl

pub line_end_at_10 : class_of 10 ≡ classes.LineEnd
unfolding class_of
line_end_at_10 = refl

pub colon_at_58 : class_of 58 ≡ classes.Colon
unfolding class_of
colon_at_58 = refl

pub minus_at_45 : class_of 45 ≡ classes.Minus
unfolding class_of
minus_at_45 = refl

pub plus_at_43 : class_of 43 ≡ classes.Plus
unfolding class_of
plus_at_43 = refl

pub point_at_46 : class_of 46 ≡ classes.Point
unfolding class_of
point_at_46 = refl

-- p holds of each number below n
abbrev pub all_below : (ℕ → Bool) → ℕ → Bool
all_below p zero = true
all_below p (suc n) = p n && all_below p n

pub all_below_at : (p : ℕ → Bool) (n k : ℕ) → all_below p n ≡ true → k < n → p k ≡ true
all_below_at p zero k h lt = absurd (omega arith)
all_below_at p (suc n) k h lt =
    let parts = and_parts (p n) _ h in
    elim (cases_lt k n) [
      | inl below ↦ all_below_at p n k parts.1 below
      | inr top ↦
          let e : k ≡ n = omega arith in
          rw e parts.0
    ]

all_digits : all_below (λ n. digit_class (class_of (48 + n))) 10 ≡ true
unfolding class_of
all_digits = refl

pub is_digit_class : (c : ByteClass) → digit_class c ≡ true → c ≡ classes.Digit
is_digit_class = grind arith

pub digit_between : (b : ℕ) → 48 ≤ b → b ≤ 57 → class_of b ≡ classes.Digit
digit_between = grind (arith, all_below_at, all_digits, is_digit_class)

all_small : all_below (λ n. letter_class (class_of (97 + n))) 26 ≡ true
unfolding class_of
all_small = refl

all_capital : all_below (λ n. letter_class (class_of (65 + n))) 26 ≡ true
unfolding class_of
all_capital = refl

abbrev pub IsLetter : ByteClass → Type 0
IsLetter c = (c ≡ classes.Letter) ⊎ (c ≡ classes.ExponentMark)

is_letter_class : (c : ByteClass) → letter_class c ≡ true → IsLetter c
is_letter_class = grind arith

pub small_between : (b : ℕ) → 97 ≤ b → b ≤ 122 → IsLetter (class_of b)
small_between b low high =
    let n : ℕ = b - 97 in
    let same : 97 + n ≡ b = omega arith in
    rw (← same) (is_letter_class _
    (all_below_at (λ n. letter_class (class_of (97 + n))) 26 n all_small (omega arith)))

pub capital_between : (b : ℕ) → 65 ≤ b → b ≤ 90 → IsLetter (class_of b)
capital_between b low high =
    let n : ℕ = b - 65 in
    let same : 65 + n ≡ b = omega arith in
    rw (← same) (is_letter_class _
    (all_below_at (λ n. letter_class (class_of (65 + n))) 26 n all_capital (omega arith)))

-- of the tests of `class_of`, in their order, the first three failed
abbrev class_after : (mark letter digit low point colon star plus minus : Bool) → ByteClass
class_after mark letter digit low point colon star plus minus =
    cond mark classes.ExponentMark (cond letter classes.Letter
    (cond digit classes.Digit (cond low classes.Underscore
    (cond point classes.Point (cond colon classes.Colon
    (cond star classes.Star (cond plus classes.Plus (cond minus classes.Minus classes.Other))))))))

abbrev EndsGap : ByteClass → Type 0
EndsGap c = (blank_class c ≡ false) × (hash_class c ≡ false)

ends_after : (mark letter digit low point colon star plus minus : Bool)
    → EndsGap (class_after mark letter digit low point colon star plus minus)
ends_after = grind arith

pub not_equal : (b n : ℕ) → n < b → (b == n) ≡ false
not_equal = grind arith

not_blank : (b : ℕ) → 35 < b → (b == 9 || b == 13 || b == 32) ≡ false
not_blank b h = simp (not_equal b 9 (omega arith), not_equal b 13 (omega arith), not_equal b 32 (omega arith))

pub above_hash : (b : ℕ) → 35 < b → EndsGap (class_of b)
unfolding class_of
above_hash = grind (arith, ends_after, not_equal, not_blank)
