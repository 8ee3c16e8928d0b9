-- How large the sums of a check are: within 128 bits for every model within the limits, where no point weighs more than a million.
use Rattle.std.proofs.Common.{◌≡◌, ℕ, ◌+◌, ◌*◌, ◌<◌, ◌≤◌, ℤ, pos, ◌+ℤ◌, unsigned_abs, [], ◌∷◌, arith}
use Rattle.std.proofs.Math.Nat.{mul-le-mul, mul-le-mul_right}
use Rattle.polcert_points.proofs.Common.{CellTable, IsProper, total_below, step_scale}
use Rattle.polcert_cells.specs.Tables.{IsWithinLimits}
use Rattle.polcert_check.proofs.Sums.Ring.{linear}
use Rattle.polcert_check.proofs.Sums.Bounds.{abs-*ℤ_le, abs_part_le}
use Rattle.polcert_optimum.proofs.Greatest.{greatest_reached}
use Rattle.polcert_points.specs.Belief.{Belief, mass, updated_belief}
use Rattle.polcert_points.specs.Points.{Points, Cover, IsCover, left_of, covered_worth, best_worth}
use Rattle.polcert_points.proofs.Charging.{charge_small}
use Rattle.polcert_points.proofs.PointRaises.{mass_taken, masses_after}

both_small : (x y : ℤ) (n p left whole large : ℕ) → unsigned_abs x ≤ n * (p * large) → unsigned_abs y ≤ left * large → whole ≡ n * p + left
    → unsigned_abs (x +ℤ y) ≤ whole * large
both_small x y n p left whole large h k is = grind arith

module _ (t : CellTable) (charges : ℕ → ℕ → ℤ) (points : Points) (large : ℕ)
    (charges_small : (a s : ℕ) → a < t.actions → s < t.states → unsigned_abs (charges a s) ≤ large)
    (values_small : (i a : ℕ) → i < points.count → a < t.actions → unsigned_abs (points.value i a) ≤ large) where
  -- what a belief with a cover is worth is at most its mass times the largest value in size
  pub covered_small : (a : ℕ) → a < t.actions → (cover : Cover) (b : Belief) → IsCover t points b cover
      → unsigned_abs (covered_worth t charges points a b cover) ≤ mass t b * large
  covered_small a al [] b is = grind (arith, charge_small)
  covered_small a al (c ∷ cover) b is =
      let whole : mass t b ≡ c.1 * mass t (points.belief c.0) + mass t _ =
      omega (arith, linear, mass_taken t b (points.belief c.0) c.1 is.1) in
      both_small _ (covered_worth t charges points a (left_of b (points.belief c.0) c.1) cover) c.1
      _ (mass t (left_of b (points.belief c.0) c.1)) _ large
      (abs-*ℤ_le (pos c.1) _ c.1 (mass t (points.belief c.0) * large) (omega arith)
      (abs-*ℤ_le (pos _) (points.value c.0 a) _ large (omega arith)
      (grind arith)))
      (covered_small a al cover (left_of b (points.belief c.0) c.1) is.2)
      whole

  pub best_small : (cover : Cover) (b : Belief) → 0 < t.actions → IsCover t points b cover
      → unsigned_abs (best_worth t charges points b cover) ≤ mass t b * large
  best_small cover b some is =
      let (a, al, reached) = greatest_reached (λ a. covered_worth t charges points a b cover) _ some in
      rw (← reached) (covered_small a al _ b is)

  -- and so are its parts over the observations, however many are added
  pub later_small : IsProper t → (b : Belief) (a : ℕ) → a < t.actions → (covers : ℕ → Cover)
      → ((z : ℕ) → z < t.observations → IsCover t points (updated_belief t b a z) (covers z)) → (k : ℕ) → k ≤ t.observations
      → unsigned_abs (total_below (λ z. best_worth t charges points (updated_belief t b a z) (covers z)) k) ≤ mass t b * step_scale t
      * large
  later_small p b a al covers are k kl =
      abs_part_le _ _ _ k
      _ _ (masses_after t p b a al) kl
      (λ z zl. best_small _ _ (omega arith) (are z zl))

pub scale_small : (t : CellTable) → IsWithinLimits t → step_scale t ≤ 5000000000000000000
scale_small t limits = (rw (limits.t_scale, limits.o_scale) (omega (arith, limits.pairs)))

pub in_figures : (t : CellTable) → IsWithinLimits t → (n : ℕ) → n ≤ 1000000
    → n * step_scale t * 10000000000000 ≤ 50000000000000000000000000000000000000
in_figures t limits n few = grind (arith, mul-le-mul_right, mul-le-mul, scale_small)

pub mass_figures : (t : CellTable) → IsWithinLimits t → (n : ℕ) → n ≤ 1000000 → n * step_scale t ≤ 5000000000000000000000000
mass_figures t limits n few = mul-le-mul few (scale_small t limits)
