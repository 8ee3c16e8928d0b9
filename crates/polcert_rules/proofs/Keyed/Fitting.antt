-- Keys that fit indices: in which range they lie, and how they continue place by place.
use Rattle.std.proofs.Common.{◌≡◌, ◌∙◌, ℕ, zero, suc, ◌+◌, ◌*◌, ◌^◌, ◌<◌, ◌≤◌, Bool, true, ◌&&◌, ◌⊎◌, inl, List, [], ◌∷◌, refl, ap, arith}
use Rattle.std.specs.Prelude.{◌==◌}
use Rattle.std.proofs.Math.Nat.{pow-succ'}
use Rattle.polcert_rules.proofs.Common.{nat_tests, Place, Every, Only, fit_places, key_base, digit, key_in, AreDigits, AreIndices}
use Rattle.polcert_rules.specs.Keys.{FitsKey}

pub and_true : (a b : Bool) → (a && b) ≡ true → (a ≡ true) × (b ≡ true)
and_true a b h1 = grind arith

pub same_number : (a b : ℕ) → (a == b) ≡ true → a ≡ b
same_number a b e = grind (arith, nat_tests)

pub equal_numbers : (a : ℕ) → (a == a) ≡ true
equal_numbers a = grind (arith, nat_tests)

pub power_next : (m : ℕ) → key_base ^ suc m ≡ key_base * key_base ^ m
power_next m = pow-succ' _ m

pub power_some : (m : ℕ) → 1 ≤ key_base ^ m
power_some zero = (omega arith)
power_some (suc m) = let e = power_next m in let before = power_some m in omega arith

-- a digit and one more fit below the next power
pub digit_below : (d s : ℕ) → d < key_base → d * s + s ≤ key_base * s
digit_below d s l = grind arith

pub key_low : (m low : ℕ) (ps : List Place) → low ≤ key_in m low ps
key_low m low [] = omega arith
key_low zero low (p ∷ ps) = omega arith
key_low (suc m) low (p ∷ ps) = let rest = key_low m (low + digit p * key_base ^ m) ps in omega arith

pub key_high : (m low : ℕ) (ps : List Place) → AreDigits m ps → key_in m low ps < low + key_base ^ m
key_high m low [] a = let some = power_some m in omega arith
key_high zero low (p ∷ ps) a = absurd a
key_high (suc m) low (p ∷ ps) a =
    let rest = key_high m (low + digit p * key_base ^ m) ps a.1 in
    let top = digit_below (digit p) (key_base ^ m) a.0 in
    let next = power_next m in
    omega arith

-- places that fit such indices are digits
pub fit_digits : (m : ℕ) (ps : List Place) (indices : List ℕ) → AreIndices m indices → fit_places ps indices ≡ true → AreDigits m ps
fit_digits m [] indices a e = tt
fit_digits m (p ∷ ps) [] a e = cc
fit_digits zero (p ∷ ps) (i ∷ indices) a e = absurd a
fit_digits (suc m) (Every ∷ ps) (i ∷ indices) a e = (omega arith, fit_digits m ps _ a.1 e)
fit_digits (suc m) (Only n ∷ ps) (i ∷ indices) a e =
    let both = and_true _ _ e in
    let same = same_number n i both.0 in
    let small = a.0 in
    (omega arith, fit_digits m ps _ a.1 both.1)

pub fits_low : (m low : ℕ) (indices : List ℕ) (key : ℕ) → FitsKey m low indices key → low ≤ key
fits_low m low indices key f = let l = key_low m low f.places in let e = f.is in omega arith

pub fits_high : (m low : ℕ) (indices : List ℕ) (key : ℕ) → AreIndices m indices → FitsKey m low indices key → key < low + key_base ^ m
fits_high m low indices key a f = grind (arith, key_high, fit_digits)

-- with no index left there is no place more
pub fits_end : (m low key : ℕ) → FitsKey m low [] key → key ≡ low
fits_end m low key f = at f.places f.fits f.is
  where
    at : (ps : List Place) → fit_places ps [] ≡ true → key ≡ key_in m low ps → key ≡ low
    at [] e is = is
    at (p ∷ ps) e is = cc

pub fits_here : (m low key : ℕ) (indices : List ℕ) → key ≡ low → FitsKey m low indices key
fits_here m low key indices e = record { places = []; fits = refl; is = e }

-- what the first place may be
abbrev pub Next : ℕ → ℕ → ℕ → List ℕ → ℕ → Type 0
Next m low i indices key = (key ≡ low) ⊎ (FitsKey m (low + key_base ^ m) indices key ⊎ FitsKey m (low + (i + 2) * key_base ^ m) indices key)

pub fits_next : (m low i : ℕ) (indices : List ℕ) (key : ℕ) → FitsKey (suc m) low (i ∷ indices) key → Next m low i indices key
fits_next m low i indices key f = at f.places f.fits f.is
  where
    at : (ps : List Place) → fit_places ps (i ∷ indices) ≡ true → key ≡ key_in (suc m) low ps → Next m low i indices key
    at [] e is = inl is
    at (Every ∷ ps) e is = grind arith
    at (Only n ∷ ps) e is = grind (arith, and_true, same_number)

pub fits_every : (m low i : ℕ) (indices : List ℕ) (key : ℕ) → FitsKey m (low + key_base ^ m) indices key
    → FitsKey (suc m) low (i ∷ indices) key
fits_every m low i indices key f =
    record { places = Every ∷ f.places; fits = f.fits; is = f.is ∙ ap (λ l. key_in m l f.places) (omega arith) }

pub fits_only : (m low i : ℕ) (indices : List ℕ) (key : ℕ) → FitsKey m (low + (i + 2) * key_base ^ m) indices key
    → FitsKey (suc m) low (i ∷ indices) key
fits_only m low i indices key f =
    record { places = Only i ∷ f.places; fits = ap (λ b. b && fit_places f.places indices) (equal_numbers i) ∙ f.fits; is = f.is }
