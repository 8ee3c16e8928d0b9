-- That a key is that of one pattern.
use Rattle.std.proofs.Common.{◌≡◌, ◌∙◌, ℕ, zero, suc, ◌+◌, ◌*◌, ◌^◌, ◌<◌, ◌≤◌, ⊎_elim, List, [], ◌∷◌, refl, sym, ap, arith, suc-mul}
use Rattle.std.proofs.Math.Nat.{mul-le-mul_right}
use Rattle.polcert_rules.proofs.Common.{cases_lt, Place, key_base, digit, key_in, AreDigits}
use Rattle.polcert_rules.proofs.Keyed.Fitting.{power_some, key_low, key_high}

pub digit_some : (p : Place) → 1 ≤ digit p
digit_some p = grind arith

pub same_place : (p q : Place) → digit p ≡ digit q → p ≡ q
same_place p q h1 = grind arith

-- a place more is a greater key
beyond : (m low : ℕ) (p : Place) (ps : List Place) → low ≡ key_in m (low + digit p * key_base ^ m) ps → ⊥
beyond m low p ps e = grind (arith, mul-le-mul_right, power_some, key_low, digit_some)

-- a lower digit is a lower key
pub next_digit : (c d s : ℕ) → c < d → c * s + s ≤ d * s
next_digit c d s l = let more : suc c * s ≤ d * s = mul-le-mul_right s l in let one : suc c * s ≡ c * s + s = suc-mul c s in omega arith

lower_digit : (m low c d : ℕ) (ps qs : List Place) → AreDigits m ps → c < d
    → key_in m (low + c * key_base ^ m) ps < key_in m (low + d * key_base ^ m) qs
lower_digit m low c d ps qs a l = grind (arith, key_low, key_high, next_digit)

pub same_digit : (m low c d : ℕ) (ps qs : List Place) → AreDigits m ps → AreDigits m qs
    → key_in m (low + c * key_base ^ m) ps ≡ key_in m (low + d * key_base ^ m) qs → c ≡ d
same_digit m low c d ps qs a b e = grind (arith, ⊎_elim, cases_lt, lower_digit)

-- the same key comes from the same places
pub same_places : (m low : ℕ) (ps qs : List Place) → AreDigits m ps → AreDigits m qs → key_in m low ps ≡ key_in m low qs → ps ≡ qs
same_places m low [] [] a b e = refl
same_places zero low [] (q ∷ qs) a b e = absurd b
same_places zero low (p ∷ ps) qs a b e = absurd a
same_places (suc m) low [] (q ∷ qs) a b e = absurd (beyond m low q qs e)
same_places (suc m) low (p ∷ ps) [] a b e = absurd (beyond m low p ps (sym e))
same_places (suc m) low (p ∷ ps) (q ∷ qs) a b e =
    let digits = same_digit m low _ _ ps qs a.1 b.1 e in
    let rest = same_places m _ ps qs a.1 b.1 (e ∙ ap (λ d. key_in m (low + d * key_base ^ m) qs) (sym digits)) in
    ap (λ x. x ∷ ps) (same_place p q digits) ∙ ap (λ xs. q ∷ xs) rest
