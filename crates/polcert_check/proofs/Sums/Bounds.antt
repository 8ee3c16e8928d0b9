-- Absolute values, and which sums fit 128 bits.
use Rattle.std.proofs.Common.{◌≡◌, ℕ, zero, suc, ◌+◌, ◌*◌, ◌^◌, ◌<◌, ◌≤◌, ℤ, pos, ◌+ℤ◌, ◌-ℤ◌, ◌*ℤ◌, ◌≤ℤ◌, neg_ℤ, unsigned_abs, FitsSigned}
use Rattle.std.proofs.Common.{to_z, of_z, ap, arith, ◌⊎◌}
use Rattle.polcert_check.proofs.Common.{w128, ints, unsigned_abs-mul, fits_signed_from_abs, cases_lt, *ℤ_comm, total_below}
use Rattle.std.proofs.Math.Nat.{mul-le-mul}
use Rattle.polcert_check.proofs.Sums.Ring.{linear, mul_le, +ℤ-*ℤ}

pub abs-+ℤ : (a b : ℤ) → unsigned_abs (a +ℤ b) ≤ unsigned_abs a + unsigned_abs b
abs-+ℤ a b = omega (arith, ints)

pub abs-*ℤ_le : (a b : ℤ) (m n : ℕ) → unsigned_abs a ≤ m → unsigned_abs b ≤ n → unsigned_abs (a *ℤ b) ≤ m * n
abs-*ℤ_le a b m n h k = rw (unsigned_abs-mul a b) (mul-le-mul h k)

pub abs_neg : (x : ℤ) → unsigned_abs (neg_ℤ x) ≡ unsigned_abs x
abs_neg x = omega (arith, ints)

pub fits_128 : (z : ℤ) (m : ℕ) → unsigned_abs z ≤ m → m < 2 ^ 127 → FitsSigned w128 z
fits_128 z m h k = fits_signed_from_abs w128 z (omega arith)

-- a number that the code negates
pub negated_is : (w : _) (x : ℤ) → FitsSigned w x → FitsSigned w (neg_ℤ x) → to_z w (of_z w (pos 0 -ℤ to_z w (of_z w x))) ≡ neg_ℤ x
negated_is w x fits signed_from = grind arith

-- ---- bounds of sums
pub abs_sum_le : (f : ℕ → ℤ) (w : ℕ → ℕ) (b n : ℕ) → ((i : ℕ) → i < n → unsigned_abs (f i) ≤ w i * b)
    → pos (unsigned_abs (total_below f n)) ≤ℤ (total_below (λ i. pos (w i)) n *ℤ pos b)
abs_sum_le f w b zero h = omega (arith, ints)
abs_sum_le f w b (suc n) h =
    let before : pos (unsigned_abs (total_below f n)) ≤ℤ (total_below (λ i. pos (w i)) n *ℤ pos b) =
    abs_sum_le f w b n (λ i l. h i (omega arith)) in
    let here : unsigned_abs (f n) ≤ w n * b = h n (omega arith) in
    let both : unsigned_abs (total_below f n +ℤ f n) ≤ unsigned_abs (total_below f n) + unsigned_abs (f n) =
    abs-+ℤ (total_below f n) (f n) in
    rw (+ℤ-*ℤ (total_below (λ i. pos (w i)) n) (pos (w n)) (pos b)) (omega (arith, linear))

pub sum_below_upto : (w : ℕ → ℕ) (i n : ℕ) → i ≤ n → total_below (λ i. pos (w i)) i ≤ℤ total_below (λ i. pos (w i)) n
sum_below_upto w i zero h = let e : i ≡ 0 = omega arith in rw e (omega (arith, linear))
sum_below_upto w i (suc n) h = go (cases_lt n i) (λ l. sum_below_upto w i n l)
  where
    go : (n < i) ⊎ (i ≤ n) → (i ≤ n → total_below (λ i. pos (w i)) i ≤ℤ total_below (λ i. pos (w i)) n)
        → total_below (λ i. pos (w i)) i ≤ℤ (total_below (λ i. pos (w i)) n +ℤ pos (w n))
    go h1 h2 = grind (arith, linear)

-- a part of the sum of terms that are at most w times b, where all w sum to the scale
pub abs_part_le : (f : ℕ → ℤ) (w : ℕ → ℕ) (b i n scale : ℕ) → total_below (λ i. pos (w i)) n ≡ pos scale → i ≤ n
    → ((i : ℕ) → i < n → unsigned_abs (f i) ≤ w i * b) → unsigned_abs (total_below f i) ≤ scale * b
abs_part_le f w b i n scale all l h =
    let part : pos (unsigned_abs (total_below f i)) ≤ℤ (total_below (λ i. pos (w i)) i *ℤ pos b) =
    abs_sum_le f w b i (λ j k. h j (omega arith)) in
    omega (
      arith,
      linear,
      *ℤ_comm (total_below (λ i. pos (w i)) i) (pos b),
      ap (λ (x : ℤ). pos b *ℤ x) all,
      mul_le b _ _
          (sum_below_upto w i n l),
    )

pub term_le : (w : ℕ → ℕ) (i n scale : ℕ) → total_below (λ i. pos (w i)) n ≡ pos scale → i < n → w i ≤ scale
term_le w i n scale all l =
    omega (arith, linear, sum_below_upto w 0 i (omega arith), sum_below_upto w (suc i) n l)
