-- The excess of an action at a point, and what a verdict says.
use Rattle.std.proofs.Common.{◌≡◌, ℕ, ◌*◌, ◌+◌, ◌<◌, ℤ, pos, ◌+ℤ◌, ◌-ℤ◌, ◌*ℤ◌, ◌≤ℤ◌, List, ⊎_elim, sym, ◌∙◌, arith}
use Rattle.polcert_points.proofs.Common.{one, CellTable, IsProper, total_below, step_scale, expected_reward}
use Rattle.polcert_cells.specs.Tables.{IsWithinLimits}
use Rattle.polcert_policy.specs.Vectors.{PolicyVectors, value_of, AreProperVectors}
use Rattle.polcert_check.proofs.Sums.Ring.{linear, *ℤ_assoc, *ℤ_left_comm}
use Rattle.polcert_optimum.specs.InformedCheck.{FitActions}
use Rattle.polcert_optimum.proofs.Checking.Pairs.{vectors_small}
use Rattle.polcert_points.specs.Belief.{sum_over_belief, updated_belief}
use Rattle.polcert_points.specs.Points.{Points, point_worth, Covers, best_worth, IsPointBacked}
use Rattle.polcert_points.specs.PointRaise.{point_excess}
use Rattle.polcert_points.specs.PointCheck.{IsRoundedUp}
use Rattle.polcert_points.specs.PointTable.{PointTable, IsProperPointTable, FitPoints, IsOneState, AreLeastCharges, charge_at}
use Rattle.polcert_points.specs.Steps.PointSums.{AreSmallCharges}
use Rattle.polcert_points.specs.PointVerdict.{AreBackedBefore, IsVerdictWith, MeetsPointPromise}
use Rattle.polcert_points.specs.declared.point_verdict.PointVerdict.{PointVerdict}
use Rattle.polcert_points.specs.declared.point_verdict.PointVerdict.TheVariants.{Yes, Exceeded}
use Rattle.polcert_points.proofs.PointBounds.{points_bound}
use Rattle.polcert_points.proofs.PointChecks.{rounded_sign}
use Rattle.polcert_points.proofs.NamedCovers.{covers_of}

-- ---- its value
scaled : (u q : ℕ) (x : ℤ) → pos u *ℤ (pos q *ℤ x) ≡ pos (q * u) *ℤ x
scaled u q x = *ℤ_left_comm (pos u) (pos q) x ∙ sym (*ℤ_assoc (pos q) (pos u) x)

module _ (t : CellTable) (charges : ℕ → ℕ → ℤ) (points : Points) (covers : Covers) (i a : ℕ) where
  pub excess_is : (reward later worth : ℤ) (d : ℕ) → reward ≡ sum_over_belief t (points.belief i) (expected_reward t a)
      → later ≡ total_below (λ z. best_worth t charges points (updated_belief t (points.belief i) a z) (covers i a z)) t.observations
      → d ≡ t.discount → worth ≡ pos (step_scale t) *ℤ point_worth t points i a
      → (pos one *ℤ reward +ℤ pos d *ℤ later) -ℤ pos one *ℤ worth ≡ point_excess t charges points covers i a
  excess_is reward later worth d re le de we = grind (arith, scaled, step_scale)

  -- no excess, rounded up, above 0
  pub backed_if : (x : ℤ) → IsRoundedUp (point_excess t charges points covers i a) x → x ≤ℤ pos 0
      → IsPointBacked t charges points covers i a
  backed_if x is low = omega (arith, linear, (rounded_sign (point_excess t charges points covers i a) x is).0 low)

  -- all points before this one, and its actions before this one
  pub all_before : ((j b : ℕ) → j < i → b < t.actions → IsPointBacked t charges points covers j b)
      → ((b : ℕ) → b < a → IsPointBacked t charges points covers i b) → AreBackedBefore t charges points covers i a
  all_before earlier here j b jl bl before = grind arith

  -- one action more
  pub action_more : ((b : ℕ) → b < a → IsPointBacked t charges points covers i b) → IsPointBacked t charges points covers i a → (b : ℕ)
      → b < a + 1
      → IsPointBacked t charges points covers i b
  action_more before here b l = grind arith

module _ (t : CellTable) where
  -- one point more
  pub point_more : (charges : ℕ → ℕ → ℤ) (points : Points) (covers : Covers) (i : ℕ)
      → ((j b : ℕ) → j < i → b < t.actions → IsPointBacked t charges points covers j b)
      → ((b : ℕ) → b < t.actions → IsPointBacked t charges points covers i b)
      → (j b : ℕ) → j < i + 1 → b < t.actions → IsPointBacked t charges points covers j b
  point_more charges points covers i before here j b l bl = grind arith

  -- ---- charges are small
  pub small_charges : (p : PointTable) (v : PolicyVectors) (charges : List ℤ) → FitActions t v → AreProperVectors v
      → FitPoints t p → IsProperPointTable p → AreLeastCharges p (value_of v) (charge_at p charges) → AreSmallCharges p charges
  small_charges p v charges fit proper fits points are a s al sl =
      ⊎_elim (λ (e : charge_at p _ a s ≡ value_of v a s). rw e
      (vectors_small t v fit proper a s (omega arith) (omega arith)))
      (λ (r : (i : ℕ) × (i < p.points.count) × IsOneState _ _ s × (charge_at p _ a s ≡ p.points.value i a)). rw
      r.3 (grind arith))
      (are a s al sl).is_reached

  -- ---- what a yes promises
  pub promise_of : (m : IsProper t) (limits : IsWithinLimits t) (vectors charges : ℕ → ℕ → ℤ) (p : PointTable) → FitPoints t p
      → IsProperPointTable p → AreLeastCharges p vectors charges
      → (verdict : PointVerdict) → IsVerdictWith t charges p.points (covers_of t p) verdict → MeetsPointPromise t vectors p verdict
  promise_of m limits vectors charges p fit proper least Yes found =
      λ informed.
      points_bound t vectors charges p.points _ m limits.states.0 informed (grind arith)
      (record { cover = grind arith; backed = found })
  promise_of m limits vectors charges p fit proper least (Exceeded i a amount) found = tt
