-- Sums over the runs of k + 1 steps, split at the first step.
use Rattle.std.proofs.Common.{◌≡◌, ℕ, suc, ◌-◌, ◌*◌, ◌^◌, ℤ, pos, ◌+ℤ◌, ◌*ℤ◌, not, List, ◌∷◌, map, get_or, Some, None, ap, ◌∙◌, arith}
use Rattle.polcert_check.proofs.Common.{pow-zero, CellTable, total_below, sum_over, Controller, one, pairs, runs, is_cut}
use Rattle.polcert_check.proofs.Common.{reward_part, total, uncut}
use Rattle.std.proofs.Math.Nat.{pow-suc}
use Rattle.polcert_check.proofs.Sums.Ring.{products, sums, *ℤ_assoc}
use Rattle.polcert_check.proofs.Sums.SumLaws.{sum_below_same, sum_below_scale, sum_below_front, sum_over_same, sum_over_map}
use Rattle.polcert_check.proofs.Sums.SumLaws.{sum_over_flat_map, sum_over_filter, sum_over_zero, sum_over_below}

-- a sum over all pairs
pub sum_over_pairs : (t : CellTable) (f : ℕ → ℕ → ℤ)
    → sum_over (λ p. f p.0 p.1) (pairs t) ≡ total_below (λ e. total_below (λ z. f e z) t.observations) t.states
sum_over_pairs t f = grind (arith, sum_over_map, sum_over_flat_map, sum_over_below)

-- a sum over the runs of k + 1 steps
pub sum_over_runs : (t : CellTable) (k : ℕ) (f : List (ℕ × ℕ) → ℤ)
    → sum_over f (runs t (suc k)) ≡ total_below (λ e. total_below (λ z. sum_over (λ run. f ((e, z) ∷ run)) (runs t k)) t.observations)
    t.states
sum_over_runs t k f =
    sum_over_flat_map f (λ p. map _ (runs t k)) (pairs t)
    ∙ sum_over_same _ _ _ (λ p. sum_over_map f (λ run. p ∷ run) (runs t k))
    ∙ sum_over_pairs t (λ e z. sum_over (λ run. f _) (runs t k))

module _ (c : Controller) (k : ℕ) where
  -- a sum over the uncut runs of k + 1 steps from n
  pub sum_over_uncut : (n : ℕ) (f : List (ℕ × ℕ) → ℤ)
      → sum_over f (uncut c (suc k) (Some n)) ≡ total_below
      (λ e. total_below (λ z. sum_over (λ run. f ((e, z) ∷ run)) (uncut c k (c.next n z))) c.cells.observations) c.cells.states
  sum_over_uncut n f = grind (arith, sum_over_filter, sum_over_runs)

  pub uncut_none : (f : List (ℕ × ℕ) → ℤ) → sum_over f (uncut c k None) ≡ pos 0
  uncut_none f = sum_over_filter f (λ run. not (is_cut c None run)) (runs c.cells k) ∙ sum_over_zero (runs c.cells k)

-- the reward part of a run, split at its first step
pub scale_step : (g u i m : ℕ) → g ^ suc i * u ^ (suc m - suc i) ≡ g * (g ^ i * u ^ (m - i))
scale_step g u i m = let e : suc m - suc i ≡ m - i = omega arith in rw (e, pow-suc) (omega arith)

pub scale_first : (g u m : ℕ) → g ^ 0 * u ^ (m - 0) ≡ u ^ m
scale_first g u m = let e : m - 0 ≡ m = omega arith in rw (e, pow-zero) (omega arith)

pub part_cons : (g k : ℕ) (r : ℤ) (rest : List ℤ)
    → total_below (λ i. pos (g ^ i * one ^ (suc k - i)) *ℤ get_or (r ∷ rest) i (pos 0)) (suc k) ≡ pos (one ^ suc k) *ℤ r +ℤ pos g
    *ℤ total_below (λ i. pos (g ^ i * one ^ (k - i)) *ℤ get_or rest i (pos 0)) k
part_cons g k r rest =
    let later = λ (i : ℕ). pos (g ^ i * one ^ (k - i)) *ℤ get_or rest i (pos 0) in
    sum_below_front (λ i. pos (g ^ i * one ^ (suc k - i)) *ℤ get_or (r ∷ rest) i (pos 0)) k
    ∙ ap (λ (x : ℕ). pos x *ℤ r +ℤ total_below (λ i. pos (g ^ suc i * one ^ (suc k - suc i)) *ℤ get_or rest i (pos 0)) k)
    (scale_first g one (suc k))
    ∙ ap (λ (x : ℤ). pos (one ^ suc k) *ℤ r +ℤ x)
    (sum_below_same _ (λ i. pos g *ℤ later i) k (λ i _. ap (λ (x : ℕ). pos x *ℤ get_or rest i (pos 0)) (scale_step g one i k)
    ∙ *ℤ_assoc (pos g) (pos (g ^ i * one ^ (k - i))) (get_or rest i (pos 0)))
    ∙ sum_below_scale (pos g) later k)

pub reward_part_cons : (c : Controller) (k n s e z : ℕ) (run : List (ℕ × ℕ))
    → reward_part c (suc k) (Some n) s ((e, z) ∷ run) ≡ pos (one ^ suc k) *ℤ c.cells.r (c.action n) s e z +ℤ pos c.cells.discount
    *ℤ reward_part c k (c.next n z) e run
reward_part_cons c k n s e z run =
    cc (
      sum_over_below _ (suc k),
      part_cons _ k _ _,
      sum_over_below
          _ k,
    )

-- the total of a run, split at its first step
total_algebra : (g h r p v : ℤ) → (r +ℤ g *ℤ p) +ℤ (g *ℤ h) *ℤ v ≡ r +ℤ g *ℤ (p +ℤ h *ℤ v)
total_algebra g h r p v = simp (products, sums)

pub total_step : (g k : ℕ) (r p v whole : ℤ) → whole ≡ r +ℤ pos g *ℤ p
    → whole +ℤ pos (g ^ suc k) *ℤ v ≡ r +ℤ pos g *ℤ (p +ℤ pos (g ^ k) *ℤ v)
total_step g k r p v whole e = let power : g ^ suc k ≡ g * g ^ k = rw pow-suc (omega arith) in
    rw (e, power) (total_algebra (pos g) (pos (g ^ k)) r p v)

pub total_cons : (c : Controller) (k n s e z : ℕ) (run : List (ℕ × ℕ))
    → total c (suc k) (Some n) s ((e, z) ∷ run) ≡ pos (one ^ suc k) *ℤ c.cells.r (c.action n) s e z +ℤ pos c.cells.discount
    *ℤ total c k (c.next n z) e run
total_cons c k n s e z run = total_step _ k _ _ _ _ (reward_part_cons c k n s e z run)
