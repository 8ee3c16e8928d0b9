-- What an action earns at once from a point, and the value there on the scale of one step: within 128 bits.
use Rattle.std.proofs.Common.{◌≡◌, ℕ, suc, ◌+◌, ◌*◌, ◌<◌, ◌≤◌, ℤ, pos, ◌+ℤ◌, ◌*ℤ◌, unsigned_abs, FitsSigned, to_z, of_z, w64, refl}
use Rattle.std.proofs.Common.{arith, add-one, lit<}
use Rattle.std.proofs.Math.Nat.{le_trans, mul-le-mul_right}
use Rattle.std.proofs.lemmas.Int.{fits_signed_from_abs, to_z-of_z, to_z_pos}
use Rattle.polcert_points.proofs.Common.{w128, CellTable, IsProper, total_below, step_scale, expected_reward}
use Rattle.polcert_cells.specs.Meaning.{sum_below}
use Rattle.polcert_cells.specs.Tables.{IsWithinLimits}
use Rattle.polcert_check.specs.Steps.Factored as factored
use Rattle.polcert_check.proofs.Sums.Ring.{*ℤ_assoc}
use Rattle.polcert_check.proofs.Sums.Bounds.{abs-*ℤ_le}
use Rattle.polcert_check.proofs.Sums.Gaps.{add_step}
use Rattle.polcert_check.proofs.Walking.Earning.{expected_reward_le}
use Rattle.polcert_optimum.proofs.Checking.Amounts.{reward_is}
use Rattle.polcert_points.specs.Belief.{Belief}
use Rattle.polcert_points.proofs.Charging.{charge_small, charges_on, value_back}
use Rattle.polcert_points.proofs.PointSizes.{scale_small}

module _ (w : ℕ) (x : ℤ) where
  -- ---- products in 128 bits
  pub weighted_fits : w ≤ 1000000 → unsigned_abs x ≤ 50000000000000000000000000000000 → FitsSigned w128 (pos w *ℤ x)
  weighted_fits few small = fits_signed_from_abs w128 _
      (omega (arith, abs-*ℤ_le (pos w) x 1000000 50000000000000000000000000000000 (omega arith) small))

  pub weighted_is : w ≤ 1000000 → FitsSigned w128 x → to_z w128 w *ℤ to_z w128 (of_z w128 x) ≡ pos w *ℤ x
  weighted_is few fits = grind arith

-- ---- rewards
module _ (t : CellTable) (m : IsProper t) (limits : IsWithinLimits t) where
  pub factored_small : (a s : ℕ) → a < t.actions → s < t.states
      → unsigned_abs (factored.factored_reward t a s) ≤ 50000000000000000000000000000000
  factored_small a s al sl = le_trans (expected_reward_le t m limits a s al sl)
      (let same : t.t_scale * (t.o_scale * 10000000000000) ≡ t.t_scale * t.o_scale * 10000000000000 = omega arith in
      rw same (mul-le-mul_right 10000000000000 (scale_small t limits)))

  pub reward_small : (a s : ℕ) → a < t.actions → s < t.states → unsigned_abs (expected_reward t a s) ≤ 50000000000000000000000000000000
  reward_small a s al sl = rw (← reward_is t a s) (factored_small a s al sl)

  module _ (b : Belief) (a : ℕ) (al : a < t.actions) (few : sum_below b t.states ≤ 1000000) where
    pub rewards_small : (k : ℕ) → k ≤ t.states → unsigned_abs (total_below (λ s. pos (b s) *ℤ expected_reward t a s) k)
        ≤ 50000000000000000000000000000000000000
    rewards_small k kl = charge_small b _ 1000000 50000000000000000000000000000000 _ k few (λ s. reward_small a s al) kl

    -- one state more, after a gap
    pub reward_step : (from s w : ℕ) (sum x : ℤ) → from ≤ s → ((k : ℕ) → from ≤ k → k < s → b k ≡ 0) → s < t.states → FitsSigned w128 x
        → sum ≡ total_below (λ k. pos (b k) *ℤ expected_reward t a k) from → w ≡ b s → x ≡ pos w *ℤ expected_reward t a s
        → FitsSigned w128 (sum +ℤ to_z w128 (of_z w128 x)) ×
        (to_z w128 (of_z w128 (sum +ℤ to_z w128 (of_z w128 x))) ≡ total_below (λ k. pos (b k) *ℤ expected_reward t a k) (s + 1))
    reward_step from s w sum x fl none sl fx before we here =
        let (fits, is) = add_step sum x (total_below (λ k. pos (b k) *ℤ expected_reward t a k) (suc s))
        50000000000000000000000000000000000000 fx (rw (charges_on b (expected_reward t a) from s sum fl none before, here, we) refl)
        (rewards_small (suc s) (omega (arith, sl))) (lit< tt) in
        (fits, rw add-one is)

-- ---- values
pub scale_is : (t : CellTable) (ts os : ℕ) → ts ≡ t.t_scale → os ≡ t.o_scale → ts * os ≡ step_scale t
scale_is t ts os te oe = cc

module _ (q : ℕ) (n : ℕ) where
  pub scaled_mass : q ≤ 5000000000000000000 → n ≤ 1000000 → q * n ≤ 5000000000000000000000000
  scaled_mass ql nl = grind arith

  pub value_is : (v : ℤ) → pos (q * n) *ℤ v ≡ pos q *ℤ (pos n *ℤ v)
  value_is v = *ℤ_assoc (pos q) (pos n) v

  pub scaled_value : (v : ℤ) → q ≤ 5000000000000000000 → n ≤ 1000000 → unsigned_abs v ≤ 10000000000000
      → to_z w128 (of_z w128 (to_z w128 q *ℤ to_z w128 n)) *ℤ to_z w128 (of_z w128 (to_z w64 (of_z w64 v))) ≡ pos (q * n) *ℤ v
  scaled_value v ql nl small =
      let first : to_z w128 (of_z w128 (to_z w128 q *ℤ to_z w128 n)) ≡ pos (q * n) =
      rw (to_z_pos w128 q (omega arith), to_z_pos w128 n (omega arith))
      (to_z-of_z w128 _ (grind arith)) in
      rw (first, value_back v small) refl
