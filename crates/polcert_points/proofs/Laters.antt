-- What follows an action at a point, over all observations, and that it fits 128 bits.
use Rattle.std.proofs.Common.{◌≡◌, ℕ, suc, ◌+◌, ◌*◌, ◌^◌, ◌<◌, ◌≤◌, ℤ, pos, ◌+ℤ◌, unsigned_abs, FitsSigned, to_z, of_z, List, refl, sym, ap}
use Rattle.std.proofs.Common.{arith, add-one, lit<}
use Rattle.std.proofs.Math.Nat.{le_trans}
use Rattle.polcert_points.proofs.Common.{w128, CellTable, IsProper, total_below}
use Rattle.polcert_cells.specs.Tables.{IsWithinLimits}
use Rattle.polcert_check.proofs.Sums.Bounds.{term_le}
use Rattle.polcert_check.proofs.Sums.Gaps.{add_step}
use Rattle.polcert_check.proofs.Sums.SumLaws.{sum_below_same}
use Rattle.polcert_points.specs.Belief.{mass, updated_belief}
use Rattle.polcert_points.specs.Points.{Cover, IsCover, best_worth}
use Rattle.polcert_points.specs.PointCheck.{IsCoverBy, IsKnown}
use Rattle.polcert_points.specs.PointTable.{PointTable, IsProperPointTable, FitPoints, charge_at}
use Rattle.polcert_points.specs.Steps.PointSums.{AreSmallCharges}
use Rattle.polcert_points.proofs.PointRaises.{masses_after}
use Rattle.polcert_points.proofs.PointChecks.{one_cover}
use Rattle.polcert_points.proofs.PointSizes.{best_small, later_small, in_figures, mass_figures}
use Rattle.polcert_points.proofs.NamedCovers.{covers_of, is_cover_by}
use Rattle.polcert_points.proofs.Rows.{sum_on}

module _ (t : CellTable) (p : PointTable) (fit : FitPoints t p) (proper : IsProperPointTable p) where
  pub few_at : (i : ℕ) → i < p.points.count → mass t (p.points.belief i) ≤ 1000000
  few_at i il = grind arith

  pub some_at : (i : ℕ) → i < p.points.count → 1 ≤ mass t (p.points.belief i)
  some_at i il = grind arith

  pub known : IsKnown t p.points p.next
  known i a z j il al zl is = grind arith

  pub covers_are : (i a z : ℕ) → i < p.points.count → a < t.actions → z < t.observations
      → IsCoverBy t p.points (updated_belief t (p.points.belief i) a z) (p.next i a z) (covers_of t p i a z)
  covers_are i a z il al zl = grind (arith, is_cover_by, some_at, known)

  pub cover_is : (i a z : ℕ) → i < p.points.count → a < t.actions → z < t.observations
      → IsCover t p.points (updated_belief t (p.points.belief i) a z) (covers_of t p i a z)
  cover_is i a z il al zl = grind arith

  -- a belief without weight is worth nothing
  pub nothing_after : (charges : List ℤ) → AreSmallCharges p charges → (i a z : ℕ) (cover : Cover) → i < p.points.count → a < t.actions
      → z < t.observations → ((e : ℕ) → e < t.states → updated_belief t (p.points.belief i) a z e ≡ 0)
      → IsCoverBy t p.points (updated_belief t (p.points.belief i) a z) (p.next i a z) cover
      → pos 0 ≡ best_worth t (charge_at p charges) p.points (updated_belief t (p.points.belief i) a z) cover
  nothing_after charges small i a z cover il al zl none by =
      let b = updated_belief t _ a z in
      let empty = sym (sum_on b 0 _ (omega arith) (λ e _. none e)) in
      nothing _ _ empty
      (best_small t (charge_at p _) p.points 10000000000000
      (λ c s cl sl. small c s (omega arith) (omega arith))
      (λ j c jl cl. proper.values j c jl (omega arith)) _ b (omega arith)
      (grind arith))
    where
      nothing : (x : ℤ) (n : ℕ) → n ≡ 0 → unsigned_abs x ≤ n * 10000000000000 → pos 0 ≡ x
      nothing x n is small = grind arith

  module _ (m : IsProper t) (limits : IsWithinLimits t) where
    -- no belief after an observation weighs much
    pub few_after : (i a z : ℕ) → i < p.points.count → a < t.actions → z < t.observations
        → mass t (updated_belief t (p.points.belief i) a z) ≤ 5 * 10 ^ 24
    few_after i a z il al zl =
        le_trans (term_le _ z _
        _ (masses_after t m _ a al) zl)
        (mass_figures t limits _ (few_at i il))

    module _ (charges : List ℤ) (small : AreSmallCharges p charges) (i a : ℕ) (il : i < p.points.count) (al : a < t.actions) where
      abbrev pub later_at : ℕ → ℤ
      later_at z = best_worth t (charge_at p charges) p.points (updated_belief t (p.points.belief i) a z) (covers_of t p i a z)

      pub later_le : (k : ℕ) → k ≤ t.observations → unsigned_abs (total_below later_at k) ≤ 50000000000000000000000000000000000000
      later_le k kl =
          le_trans (later_small t (charge_at p _) p.points 10000000000000
          (λ b s bl sl. small b s (omega arith) (omega arith))
          (λ j b jl bl. proper.values j b jl (omega arith)) m _ a al _
          (λ z. cover_is i a z il al) k kl)
          (in_figures t limits _ (few_at i il))

      -- one observation more
      pub later_step : (z : ℕ) (sum x : ℤ) → z < t.observations → FitsSigned w128 x → sum ≡ total_below later_at z
          → ((cover : Cover) → IsCoverBy t p.points (updated_belief t (p.points.belief i) a z) (p.next i a z) cover
          → x ≡ best_worth t (charge_at p charges) p.points (updated_belief t (p.points.belief i) a z) cover)
          → FitsSigned w128 (sum +ℤ to_z w128 (of_z w128 x)) ×
          (to_z w128 (of_z w128 (sum +ℤ to_z w128 (of_z w128 x))) ≡ total_below later_at (z + 1))
      later_step z sum x zl fx before worth =
          let here = worth _ (covers_are i a z il al zl) in
          let (fits, is) = add_step sum x (total_below later_at (suc z)) 50000000000000000000000000000000000000 fx (rw (before, here) refl)
          (later_le (suc z) (omega (arith, zl))) (lit< tt) in
          (fits, rw add-one is)

      -- the covers that are named are these
      pub later_is : (covers : ℕ → Cover) → ((z : ℕ) → z < t.observations
          → IsCoverBy t p.points (updated_belief t (p.points.belief i) a z) (p.next i a z) (covers z))
          → total_below later_at t.observations ≡ total_below
          (λ z. best_worth t (charge_at p charges) p.points (updated_belief t (p.points.belief i) a z) (covers z)) t.observations
      later_is covers are =
          sum_below_same _ _ _ (λ z zl. ap (best_worth t (charge_at p _) p.points
          _) (one_cover t p.points _ _
          _ _ (covers_are i a z il al zl) (are z zl)))
