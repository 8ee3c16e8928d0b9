-- Means of values fit 128 bits.
use Rattle.std.proofs.Common.{◌≡◌, ℕ, zero, suc, ◌+◌, ◌*◌, ◌^◌, ◌<◌, ◌≤◌, ⊎_elim, ℤ, pos, ◌+ℤ◌, ◌*ℤ◌, unsigned_abs, FitsSigned, to_z, of_z}
use Rattle.std.proofs.Common.{refl, ap, ◌∙◌, arith}
use Rattle.std.proofs.lemmas.Bool.{cases_lt}
use Rattle.std.proofs.Math.Nat.{mul-le-mul}
use Rattle.polcert_cells.specs.Meaning.{sum_below}
use mir.Syntax.{w128}
use Rattle.polcert_check.specs.Horizon.{total_below}
use Rattle.polcert_check.proofs.Sums.Bounds.{abs_part_le, abs-*ℤ_le}
use Rattle.polcert_check.proofs.Sums.Gaps.{add_step}
use Rattle.polcert_robust.specs.Worst.{mean}

module _ (w : ℕ → ℕ) where
  pub total_pos : (n : ℕ) → total_below (λ i. pos (w i)) n ≡ pos (sum_below w n)
  total_pos zero = refl
  total_pos (suc n) = rw (total_pos n) refl

  pub part_small : (x : ℕ → ℤ) (b n i : ℕ) → ((j : ℕ) → j < n → unsigned_abs (x j) ≤ b) → i ≤ n
      → unsigned_abs (mean w x i) ≤ sum_below w n * b
  part_small x b n i small l =
      abs_part_le _ w b i n _ (total_pos n) l
      (λ j k. abs-*ℤ_le (pos (w j)) (x j) (w j) b (omega arith) (small j k))

  pub one_weight : (n i : ℕ) → i < n → w i ≤ sum_below w n
  one_weight zero i l = absurd (omega arith)
  one_weight (suc n) i l =
      ⊎_elim
      (λ (k : i < n). omega (arith, one_weight n i k))
      (λ (k : n ≤ i). let e : n ≡ i = omega arith in simp e (omega arith))
      (cases_lt i n)

  pub product_small : (x : ℕ → ℤ) (b n i : ℕ) → ((j : ℕ) → j < n → unsigned_abs (x j) ≤ b) → i < n → sum_below w n * b < 2 ^ 127
      → w i * unsigned_abs (x i) < 2 ^ 127
  product_small x b n i small l fits = omega (arith, mul-le-mul (one_weight n i l) (small i l))

  -- one term more
  pub mean_more : (x : ℕ → ℤ) (b n i : ℕ) (sum y : ℤ) → ((j : ℕ) → j < n → unsigned_abs (x j) ≤ b) → i < n
      → sum_below w n * b < 2 ^ 127
      → sum ≡ mean w x i → FitsSigned w128 y → y ≡ pos (w i) *ℤ x i
      → FitsSigned w128 (sum +ℤ to_z w128 (of_z w128 y)) × (to_z w128 (of_z w128 (sum +ℤ to_z w128 (of_z w128 y))) ≡ mean w x (i + 1))
  mean_more x b n i sum y small l fits is fy ye = add_step sum y _ _ fy (next ∙ same) (part_small x b n (i + 1) small (omega arith)) fits
    where
      next : sum +ℤ y ≡ mean w x (suc i)
      next = rw (is, ye) refl

      same : mean w x (suc i) ≡ mean w x (i + 1)
      same = let e : suc i ≡ i + 1 = omega arith in ap (λ (k : ℕ). mean w x k) e
