-- How large the amount of a no can be: at most three values on the scale of the point.
use Rattle.std.proofs.Common.{◌≡◌, ℕ, ◌*◌, ◌<◌, ◌≤◌, ℤ, pos, ◌+ℤ◌, ◌-ℤ◌, ◌*ℤ◌, ◌<ℤ◌, unsigned_abs, ⊎_elim, rules}
use Rattle.std.proofs.Common.{arith}
use Rattle.std.proofs.Math.Nat.{le_trans, mul-le-mul_right}
use Rattle.polcert_points.proofs.Common.{one, CellTable, IsProper, step_scale, expected_reward}
use Rattle.polcert_text.specs.Numbers.{largest}
use Rattle.polcert_cells.specs.Tables.{IsWithinLimits}
use Rattle.polcert_policy.specs.Vectors.{PolicyVectors, value_of, AreProperVectors}
use Rattle.polcert_check.proofs.Sums.Bounds.{abs-*ℤ_le}
use Rattle.polcert_check.proofs.Walking.Earning.{expected_reward_le}
use Rattle.polcert_optimum.specs.InformedCheck.{FitActions}
use Rattle.polcert_optimum.proofs.Checking.Amounts.{reward_is}
use Rattle.polcert_optimum.proofs.Checking.Pairs.{vectors_small}
use Rattle.polcert_points.specs.Belief.{mass, sum_over_belief}
use Rattle.polcert_points.specs.Points.{point_worth}
use Rattle.polcert_points.specs.PointCheck.{IsRoundedUp}
use Rattle.polcert_points.specs.PointTable.{PointTable, IsProperPointTable, FitPoints, IsOneState, AreLeastCharges}
use Rattle.polcert_points.specs.PointVerdict.{IsPointVerdict}
use Rattle.polcert_points.specs.declared.point_verdict.PointVerdict.TheVariants.{Exceeded}
use Rattle.polcert_points.proofs.Charging.{charge_small}
use Rattle.polcert_points.proofs.Laters.{known}
use Rattle.polcert_points.proofs.PointChecks.{are_covers}
use Rattle.polcert_points.proofs.PointSizes.{later_small}

module _ (x : ℤ) (y : ℤ) (k : ℕ) where
  -- ---- in figures
  less_small : unsigned_abs x ≤ 2 * k → unsigned_abs y ≤ k → unsigned_abs (x -ℤ y) ≤ 3 * k
  less_small xl yl = grind arith

  sum_small : unsigned_abs x ≤ k → unsigned_abs y ≤ k → unsigned_abs (x +ℤ y) ≤ 2 * k
  sum_small xl yl = grind arith

parts_small : (r l w : ℤ) (d k : ℕ) → d ≤ one → unsigned_abs r ≤ k → unsigned_abs l ≤ k → unsigned_abs w ≤ one * k
    → unsigned_abs ((pos one *ℤ r +ℤ pos d *ℤ l) -ℤ w) ≤ 3 * (one * k)
parts_small r l w d k dl rl ll wl = search (rules, less_small, sum_small, abs-*ℤ_le, le_trans, mul-le-mul_right)

rounded_small : (y x : ℤ) (k : ℕ) → IsRoundedUp y x → pos 0 <ℤ x → unsigned_abs y ≤ 3 * (one * k) → unsigned_abs x ≤ 3 * k
unfolding one
rounded_small y x k is above small = grind arith

worth_size : (scale m : ℕ) → scale * one * (m * largest) ≡ one * (m * scale * largest)
worth_size scale m = omega arith

as_scale : (m scale k : ℕ) → k ≤ 3 * (m * scale * largest) → k ≤ 3 * (scale * m) * largest
as_scale m scale k small = omega arith

-- ---- the parts
module _ (t : CellTable) (m : IsProper t) (limits : IsWithinLimits t) (v : PolicyVectors) (fit_v : FitActions t v)
    (proper_v : AreProperVectors v) (p : PointTable) (fit : FitPoints t p) (proper : IsProperPointTable p) where
  charges_small : (charges : ℕ → ℕ → ℤ) → AreLeastCharges p (value_of v) charges → (a s : ℕ) → a < t.actions → s < t.states
      → unsigned_abs (charges a s) ≤ largest
  charges_small charges are a s al sl =
      let bl : a < p.actions = rw fit.actions al in
      let ul : s < p.states = rw fit.states sl in
      ⊎_elim (λ (e : charges a s ≡ value_of v a s). rw e (vectors_small t v fit_v proper_v a s al sl))
      (λ (r : (i : ℕ) × (i < p.points.count) × IsOneState p.states _ s × (charges a s ≡ p.points.value i a)). rw r.3
      (proper.values r.0 a r.1 bl))
      (are a s bl ul).is_reached

  values_small : (i a : ℕ) → i < p.points.count → a < t.actions → unsigned_abs (p.points.value i a) ≤ largest
  values_small i a il al = grind arith

  one_reward : (a s : ℕ) → a < t.actions → s < t.states → unsigned_abs (expected_reward t a s) ≤ step_scale t * largest
  one_reward a s al sl =
      let grouped : t.t_scale * (t.o_scale * largest) ≡ step_scale t * largest = omega arith in
      rw (← reward_is t a s) (rw grouped at (expected_reward_le t m limits a s al sl))

  worth_part : (i a : ℕ) → i < p.points.count → a < t.actions
      → unsigned_abs (pos (step_scale t * one) *ℤ point_worth t p.points i a) ≤ one * (mass t (p.points.belief i) * step_scale t * largest)
  worth_part i a il al =
      rw (worth_size (step_scale t) _) at
      (abs-*ℤ_le (pos (step_scale t * one)) (point_worth t p.points i a) (step_scale t * one) (mass t (p.points.belief i) * largest)
      (omega arith)
      (abs-*ℤ_le (pos _) (p.points.value i a) _ largest (omega arith)
      (values_small i a il al)))

  pub amount_small : (i a : ℕ) (amount : ℤ) → IsPointVerdict t (value_of v) p (Exceeded i a amount)
      → unsigned_abs amount ≤ 3 * (step_scale t * mass t (p.points.belief i)) * largest
  unfolding one
  amount_small i a amount h =
      let (il, al, _, rounded, above) = h.found in
      let b = p.points.belief i in
      let covers = are_covers t p.points _ _ (known t p fit proper) h.covered in
      let later =
      later_small t h.charges p.points _ (charges_small _ h.charged) values_small m b a al _
      (λ z. covers i a z il al) t.observations (omega arith) in
      as_scale _ _ _
      (rounded_small _ _ _ rounded above
      (parts_small (sum_over_belief t b _)
      _
      _ _ _
      limits.discount (let grouped : mass t b * (step_scale t * largest) ≡ mass t b * step_scale t * largest = omega arith in
      rw grouped at (charge_small b (expected_reward t a) (mass t b) (step_scale t * largest) t.states t.states (omega arith)
      (λ s sl. one_reward a s al sl) (omega arith))) later (worth_part i a il al)))
