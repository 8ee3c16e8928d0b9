-- The charge of what is left, one state more at a time, and that it fits 128 bits.
use Rattle.std.proofs.Common.{◌≡◌, ℕ, suc, ◌+◌, ◌*◌, ◌<◌, ◌≤◌, ℤ, pos, ◌+ℤ◌, ◌*ℤ◌, unsigned_abs, w64, FitsSigned, to_z, of_z, sym, rules}
use Rattle.std.proofs.Common.{◌∙◌, arith}
use Rattle.std.proofs.Math.Nat.{le_trans, mul-le-mul_right}
use Rattle.std.proofs.lemmas.Int.{fits_signed_from_abs, to_z-of_z}
use Rattle.polcert_points.proofs.Common.{w128, total_below}
use Rattle.polcert_cells.specs.Meaning.{sum_below}
use Rattle.polcert_check.proofs.Sums.RowTotals.{sum_of_pos}
use Rattle.polcert_check.proofs.Sums.Bounds.{abs-*ℤ_le, abs_part_le, term_le}
use Rattle.polcert_check.proofs.Sums.Gaps.{add_step, gap, no_weight}

-- how large a part of the sum is
pub charge_small : (b : ℕ → ℕ) (c : ℕ → ℤ) (most large n k : ℕ) → sum_below b n ≤ most → ((s : ℕ) → s < n → unsigned_abs (c s) ≤ large)
    → k ≤ n → unsigned_abs (total_below (λ s. pos (b s) *ℤ c s) k) ≤ most * large
charge_small b c most large n k few small kl =
    le_trans (abs_part_le _ b _ k n _ (sum_of_pos b n) kl
    (λ s sl. abs-*ℤ_le (pos _) (c s) (b s) large (omega arith) (small s sl)))
    (mul-le-mul_right large few)

pub weight_few : (b : ℕ → ℕ) (most n s : ℕ) → sum_below b n ≤ most → s < n → b s ≤ most
weight_few b most n s few sl = le_trans (term_le b s n _ (sum_of_pos b n) sl) few

pub product_small : (b : ℕ) (c : ℤ) → b ≤ 5000000000000000000000000 → unsigned_abs c ≤ 10000000000000
    → unsigned_abs (pos b *ℤ c) ≤ 50000000000000000000000000000000000000
product_small b c few small = abs-*ℤ_le (pos b) c 5000000000000000000000000 10000000000000 (omega arith) small

-- the numbers as the code reads them
pub value_back : (x : ℤ) → unsigned_abs x ≤ 10000000000000 → to_z w128 (of_z w128 (to_z w64 (of_z w64 x))) ≡ x
value_back x small = grind arith

module _ (b : ℕ) (x : ℤ) where
  pub product_back : b ≤ 5000000000000000000000000 → unsigned_abs x ≤ 10000000000000
      → to_z w128 b *ℤ to_z w128 (of_z w128 (to_z w64 (of_z w64 x))) ≡ pos b *ℤ x
  product_back few small = grind arith

  pub product_fits : b ≤ 5000000000000000000000000 → unsigned_abs x ≤ 10000000000000 → FitsSigned w128 (pos b *ℤ x)
  product_fits few small = fits_signed_from_abs w128 _ (omega (arith, product_small b x few small))

module _ (b : ℕ → ℕ) (c : ℕ → ℤ) where
  -- states without weight add nothing
  pub charges_on : (from to : ℕ) (sum : ℤ) → from ≤ to → ((k : ℕ) → from ≤ k → k < to → b k ≡ 0)
      → sum ≡ total_below (λ k. pos (b k) *ℤ c k) from → sum ≡ total_below (λ k. pos (b k) *ℤ c k) to
  charges_on from to sum fl none is = is ∙ sym (gap _ from to fl (λ k l h. no_weight _ _ (none k l h)))

  -- one state more
  pub charge_step : (n s : ℕ) (sum : ℤ) → sum_below b n ≤ 5000000000000000000000000
      → ((k : ℕ) → k < n → unsigned_abs (c k) ≤ 10000000000000) → s < n → sum ≡ total_below (λ k. pos (b k) *ℤ c k) s
      → FitsSigned w128 (sum +ℤ to_z w128 (of_z w128 (pos (b s) *ℤ c s)))
      × (to_z w128 (of_z w128 (sum +ℤ to_z w128 (of_z w128 (pos (b s) *ℤ c s)))) ≡ total_below (λ k. pos (b k) *ℤ c k) (suc s))
  charge_step n s sum few small sl is =
      add_step sum _ _ 50000000000000000000000000000000000000
      (product_fits _ _ (weight_few b 5000000000000000000000000 n s few sl) (small s sl))
      (cc) (charge_small b c 5000000000000000000000000 10000000000000 n (suc s) few small
      (omega arith)) (omega arith)

-- with the point that is taken out
pub whole_small : (x rest : ℤ) (w left : ℕ) → w + left ≤ 5000000000000000000000000 → unsigned_abs x ≤ w * 10000000000000
    → unsigned_abs rest ≤ left * 10000000000000 → unsigned_abs (x +ℤ rest) ≤ 50000000000000000000000000000000000000
whole_small x rest w left few h k = grind arith

pub taken_small : (w : ℕ) (v : ℤ) → unsigned_abs v ≤ 10000000000000 → unsigned_abs (pos w *ℤ v) ≤ w * 10000000000000
taken_small w v small = search (rules, abs-*ℤ_le)

module _ (b : ℕ → ℕ) (c : ℕ → ℤ) (n w : ℕ) (v : ℤ) (small : (s : ℕ) → s < n → unsigned_abs (c s) ≤ 10000000000000)
    (value : unsigned_abs v ≤ 10000000000000) (whole : w + sum_below b n ≤ 5000000000000000000000000) where
  pub covered_small : unsigned_abs (pos w *ℤ v +ℤ total_below (λ s. pos (b s) *ℤ c s) n) ≤ 50000000000000000000000000000000000000
  covered_small = whole_small (pos w *ℤ v) _ w (sum_below b n) whole (taken_small w v value)
      (charge_small b c _ 10000000000000 n n (omega arith) small (omega arith))

  -- the sum as the code makes it
  pub covered_step : (rest : ℤ) → rest ≡ total_below (λ s. pos (b s) *ℤ c s) n → FitsSigned w128 rest
      → FitsSigned w128 (to_z w128 (of_z w128 (pos w *ℤ v)) +ℤ to_z w128 (of_z w128 rest))
      × (to_z w128 (of_z w128 (to_z w128 (of_z w128 (pos w *ℤ v)) +ℤ to_z w128 (of_z w128 rest))) ≡ pos w *ℤ v
      +ℤ total_below (λ s. pos (b s) *ℤ c s) n)
  covered_step rest is fits = grind (arith, to_z-of_z, product_fits, add_step, total_below, covered_small)
