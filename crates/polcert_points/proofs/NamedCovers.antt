-- The covers that the named points mean: that there are some, and what they are worth.
use Rattle.std.proofs.Common.{◌≡◌, ⊎_elim, inl, ℕ, zero, suc, ◌-◌, ◌*◌, ◌/◌, ◌<◌, ◌≤◌, ℤ, pos, ◌+ℤ◌, ◌*ℤ◌, Option, Some, None, [], ◌∷◌}
use Rattle.std.proofs.Common.{refl, sym, ap, subst, arith}
use Rattle.polcert_points.proofs.Common.{CellTable, greatest_below}
use Rattle.polcert_check.proofs.Sums.Bounds.{term_le}
use Rattle.polcert_check.proofs.Sums.RowTotals.{sum_of_pos}
use Rattle.polcert_check.proofs.Sums.SumLaws.{sum_below_same}
use Rattle.polcert_points.specs.Belief.{Belief, mass, updated_belief}
use Rattle.polcert_points.specs.Points.{Points, point_worth, Cover, Covers, covered_worth, best_worth}
use Rattle.polcert_points.specs.PointCheck.{IsCoverBy}
use Rattle.polcert_points.specs.PointTable.{PointTable}
use Rattle.std.proofs.Math.Nat.{lt-div-mul-add}
use Rattle.polcert_points.proofs.Covering.{IsMostUntil, weight_here, most_is}
use Rattle.polcert_points.proofs.BestWorths.{some_weight}

module _ (top : ℕ) (b : Belief) where
  -- ---- the number of times
  one_until : (point : Belief) (n most : ℕ) → IsMostUntil top b point n most → (next : ℕ) × IsMostUntil top b point (suc n) next
  one_until point n most before =
      ⊎_elim (λ (l : b n < most * point n). (
        b n / point n,
        grind arith,
      ))
      (λ (h : most * point n ≤ b n). (most, weight_here top b point n most most (omega arith) h (inl refl) before))
      (grind arith)
    where
      some : (x w m : ℕ) → x < m * w → 0 < w
      some x zero m l = absurd (omega (arith, l))
      some x (suc w) m l = omega arith

      fewer : (x w m : ℕ) → x < m * w → x / w ≤ m
      fewer x w m l = grind arith

      more : (x w m : ℕ) → x < m * w → x < suc (x / w) * w
      more x w m l = omega (arith, lt-div-mul-add {a = x} {b = w} (some x w m l))

  pub most_until : (point : Belief) (n : ℕ) → (most : ℕ) × IsMostUntil top b point n most
  most_until point zero = (top, grind arith)
  most_until point (suc n) = let before = most_until _ n in one_until _ n _ before.1

-- ---- the covers
abbrev pub cover_of : CellTable → Points → Belief → Option ℕ → Cover
cover_of t points b None = []
cover_of t points b (Some j) = (j, (most_until (mass t b) b (points.belief j) t.states).0) ∷ []

pub is_cover_by : (t : CellTable) (points : Points) (b : Belief) (named : Option ℕ)
    → ((j : ℕ) → named ≡ Some j → 1 ≤ mass t (points.belief j)) → IsCoverBy t points b named (cover_of t points b named)
is_cover_by t points b None some = refl
is_cover_by t points b (Some j) some =
    let times = most_until _ b _ _ in (
      _,
      most_is _ b _ _ _ (λ s sl. term_le b s _ _ (sum_of_pos b _) sl) (some_weight _ _ (some j refl)) times.1,
      refl,
    )

abbrev pub covers_of : CellTable → PointTable → Covers
covers_of t p i a z = cover_of t p.points (updated_belief t (p.points.belief i) a z) (p.next i a z)

-- ---- beliefs that are the same below the number of states
pub same_cover : (t : CellTable) (points : Points) (b c : Belief) (named : Option ℕ) (cover : Cover) → ((s : ℕ) → s < t.states → b s ≡ c s)
    → IsCoverBy t points b named cover → IsCoverBy t points c named cover
same_cover t points b c None cover same by = by
same_cover t points b c (Some j) cover same by = (
  by.0,
  record {
    fits = λ s sl. subst (λ (x : ℕ). by.0 * (points.belief j) s ≤ x) (same s sl) (by.1.fits s sl);
    most =
        λ all. by.1.most (λ s sl. subst (λ (x : ℕ). suc by.0 * (points.belief j) s ≤ x) (sym (same s sl)) (all s sl));
  },
  by.2,
)

module _ (t : CellTable) (charges : ℕ → ℕ → ℤ) (points : Points) where
  same_worth : (a : ℕ) (cover : Cover) (b c : Belief)
      → ((s : ℕ) → s < t.states → b s ≡ c s) → covered_worth t charges points a b cover ≡ covered_worth t charges points a c cover
  same_worth a [] b c same = grind (arith, sum_below_same)
  same_worth a (x ∷ cover) b c same =
      ap (λ (y : ℤ). pos x.1 *ℤ point_worth t points x.0 a +ℤ y)
      (same_worth a cover _ _
      (λ s sl. ap (λ (n : ℕ). n - x.1 * points.belief x.0 s) (same s sl)))

  pub same_best : (cover : Cover) (b c : Belief)
      → ((s : ℕ) → s < t.states → b s ≡ c s) → best_worth t charges points b cover ≡ best_worth t charges points c cover
  same_best cover b c same = λ i. greatest_below (λ a. same_worth a cover b c same i) t.actions
