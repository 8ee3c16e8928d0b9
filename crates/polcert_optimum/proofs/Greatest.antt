-- The greatest of some numbers: none is greater, one is as great, and nothing else is both.
use Rattle.std.proofs.Common.{◌≡◌, ℕ, zero, suc, ◌+◌, ◌<◌, ◌≤◌, ℤ, ◌≤ℤ◌, unsigned_abs, ⊎_elim, refl, sym, ◌∙◌, arith}
use Rattle.std.proofs.Math.Numerals.{add-one}
use Rattle.polcert_optimum.proofs.Common.{int_max, cases_lt, ints, clamps, greatest_below}
use Rattle.std.proofs.lemmas.Bool.{cases_cond}
use Rattle.polcert_check.proofs.Sums.Ring.{≤ℤ_trans, ≤ℤ_from_eq}

pub max_left : (x y : ℤ) → x ≤ℤ int_max x y
max_left x y = omega (arith, ints, clamps)

pub max_right : (x y : ℤ) → y ≤ℤ int_max x y
max_right x y = omega (arith, ints, clamps)

pub greatest_le : (f : ℕ → ℤ) (n i : ℕ) → i < n → f i ≤ℤ greatest_below f n
greatest_le f zero i l = absurd (omega arith)
greatest_le f (suc zero) i l = let e : i ≡ 0 = omega arith in ≤ℤ_from_eq _ _ (rw e refl)
greatest_le f (suc (suc n)) i l =
    ⊎_elim
    (λ (k : i < suc n). ≤ℤ_trans _ _ _ (greatest_le f _ i k) (max_left _ _))
    (λ (k : suc n ≤ i). let e : i ≡ suc n = omega arith in rw e (max_right _ _))
    (cases_lt i _)

pub greatest_reached : (f : ℕ → ℤ) (n : ℕ) → 0 < n → (i : ℕ) × (i < n) × (f i ≡ greatest_below f n)
greatest_reached f zero some = absurd (omega arith)
greatest_reached f (suc zero) some = (0, omega arith, refl)
greatest_reached f (suc (suc n)) some =
    ⊎_elim
    (λ (e : int_max _ (f (suc n)) ≡ greatest_below f (suc n)). let (i, l, is) =
    greatest_reached f (suc n) (omega arith) in (i, omega arith, is ∙ sym e))
    (λ (e : int_max (greatest_below f (suc n)) _ ≡ f _). (suc n, omega arith, sym e))
    (cases_cond _ _ _ _ refl)

-- one number more
pub greatest_more : (f : ℕ → ℤ) (n : ℕ) → 0 < n → greatest_below f (n + 1) ≡ int_max (greatest_below f n) (f n)
greatest_more f zero some = absurd (omega arith)
greatest_more f (suc n) some = rw add-one refl

pub max_small : (x y : ℤ) (most : ℕ) → unsigned_abs x ≤ most → unsigned_abs y ≤ most → unsigned_abs (int_max x y) ≤ most
max_small x y most h1 h2 = omega (arith, ints, clamps)
