-- Points that pass still pass if every value is raised by one constant.
use Rattle.std.proofs.Common.{◌≡◌, ℕ, zero, suc, ◌<◌, ◌≤◌, ℤ, pos, ◌+ℤ◌, ◌-ℤ◌, ◌*ℤ◌, ◌≤ℤ◌, Option, []}
use Rattle.std.proofs.Common.{◌∷◌, refl, ap, arith}
use Rattle.polcert_points.proofs.Common.{int_max, CellTable, IsProper, one, greatest_below, expected_reward}
use Rattle.polcert_check.proofs.Sums.Ring.{mul_le, ≤ℤ_from_eq}
use Rattle.polcert_check.proofs.Sums.SumLaws.{sum_below_le}
use Rattle.polcert_points.specs.Belief.{Belief, mass, sum_over_belief, updated_belief}
use Rattle.polcert_points.specs.Points.{Points, Cover, IsCover, covered_worth, best_worth, Covers}
use Rattle.polcert_points.specs.Points.{IsPointBacked}
use Rattle.polcert_points.specs.PointRaise.{raised_table, raised_points}
use Rattle.polcert_points.specs.PointCheck.{IsCoverBy, AreCoversBy}
use Rattle.polcert_points.specs.PointTable.{PointTable, IsProperPointTable, FitPoints, AreLeastCharges}
use Rattle.polcert_points.specs.PointVerdict.{IsVerdictWith, IsPointVerdict}
use Rattle.polcert_points.specs.declared.point_verdict.PointVerdict.TheVariants.{Yes, Exceeded}
use Rattle.polcert_points.proofs.Laters.{known}
use Rattle.polcert_points.proofs.PointChecks.{are_covers, one_cover}
use Rattle.polcert_points.proofs.PointRaises.{excess_raised}
use Rattle.polcert_points.proofs.SamePoints.{no_excess, found_there}
use Rattle.polcert_points.proofs.OnePoints.{itself, fails_there}

-- ---- sums that rise
sum_le : (x y u v : ℤ) → x ≤ℤ y → u ≤ℤ v → (x +ℤ u) ≤ℤ (y +ℤ v)
sum_le x y u v h k = grind arith

max_le : (x y u v : ℤ) → x ≤ℤ y → u ≤ℤ v → int_max x u ≤ℤ int_max y v
max_le x y u v h k = grind arith

greatest_rises : (f g : ℕ → ℤ) (n : ℕ) → ((i : ℕ) → i < n → f i ≤ℤ g i) → greatest_below f n ≤ℤ greatest_below g n
greatest_rises f g zero each = grind arith
greatest_rises f g (suc zero) each = grind arith
greatest_rises f g (suc (suc n)) each =
    max_le _ _ _ _
    (greatest_rises f g (suc n) (λ i l. each i (omega arith))) (grind arith)

-- ---- points with other values, each raised by the same, and charges that rise by no more
abbrev pub with_values : Points → (ℕ → ℕ → ℤ) → Points
with_values points value = record { count = points.count; belief = points.belief; value = value }

at_most_zero : (x y z : ℤ) → x ≤ℤ y → (y -ℤ z) ≤ℤ pos 0 → x ≤ℤ z
at_most_zero x y z h k = grind arith

less_than_none : (x y : ℤ) (n : ℕ) → x ≡ y -ℤ pos n → y ≤ℤ pos 0 → x ≤ℤ pos 0
less_than_none x y n is h = grind arith

module _ (t : CellTable) (points : Points) (value : ℕ → ℕ → ℤ) (by : ℕ) (c d : ℕ → ℕ → ℤ)
    (raised : (i a : ℕ) → i < points.count → a < t.actions → value i a ≡ points.value i a +ℤ pos by)
    (charged : (a s : ℕ) → a < t.actions → s < t.states → d a s ≤ℤ (c a s +ℤ pos by)) where
  covered_le : (a : ℕ) → a < t.actions → (cover : Cover) (b : Belief) → IsCover t points b cover
      → covered_worth t d (with_values points value) a b cover ≤ℤ covered_worth t (raised_table c by) (raised_points points by) a b cover
  covered_le a al [] b is = grind (arith, sum_below_le, mul_le)
  covered_le a al (x ∷ cover) b is =
      sum_le _ _ _ _ (grind arith)
      (covered_le a al cover _ is.2)

  best_le : (cover : Cover) (b : Belief) → IsCover t points b cover
      → best_worth t d (with_values points value) b cover ≤ℤ best_worth t (raised_table c by) (raised_points points by) b cover
  best_le cover b is = grind (arith, greatest_rises, covered_le)

  module _ (m : IsProper t) (less : t.discount ≤ one) (covers : Covers) (i a : ℕ) (il : i < points.count) (al : a < t.actions)
      (are : (z : ℕ) → z < t.observations → IsCover t points (updated_belief t (points.belief i) a z) (covers i a z)) where
    pub backed_raised : IsPointBacked t c points covers i a → IsPointBacked t d (with_values points value) covers i a
    backed_raised backed =
        let worth =
        ap (λ (x : ℤ). pos (mass t (points.belief i)) *ℤ x) (raised i a il al) in
        rw worth
        (at_most_zero _ _ _ (sum_le _ _ _ _ (≤ℤ_from_eq (pos one *ℤ sum_over_belief t (points.belief i) (expected_reward t a)) _ refl)
        (mul_le t.discount _ _ (sum_below_le _ _ t.observations
        (λ z zl. best_le (covers i a z) (updated_belief t (points.belief i) a z) (are z zl)))))
        (less_than_none _ _ _
        (excess_raised t m less c points covers by i a al are) (no_excess t c points covers i a backed)))

-- ---- the least charges rise by no more
abbrev pub with_point_values : PointTable → (ℕ → ℕ → ℤ) → PointTable
with_point_values p value = record {
  states = p.states;
  actions = p.actions;
  observations = p.observations;
  points = with_values p.points value;
  next = p.next;
}

module _ (p : PointTable) (value : ℕ → ℕ → ℤ) (by : ℕ) (vectors c d : ℕ → ℕ → ℤ)
    (raised : (i a : ℕ) → i < p.points.count → a < p.actions → value i a ≡ p.points.value i a +ℤ pos by) where
  charges_raised : AreLeastCharges p vectors c → AreLeastCharges (with_point_values p value) vectors d → (a s : ℕ) → a < p.actions
      → s < p.states → d a s ≤ℤ (c a s +ℤ pos by)
  charges_raised first second a s al sl = grind arith

-- ---- covers depend on no value
same_by : (t : CellTable) (points : Points) (value : ℕ → ℕ → ℤ) (b : Belief) (named : Option ℕ) (cover : Cover)
    → IsCoverBy t (with_values points value) b named cover → IsCoverBy t points b named cover
same_by t points value b _ cover by = by

-- ---- a yes stays
module _ (t : CellTable) (m : IsProper t) (less : t.discount ≤ one) (vectors : ℕ → ℕ → ℤ) (p : PointTable) (fit : FitPoints t p)
    (proper : IsProperPointTable p) (value : ℕ → ℕ → ℤ) (by : ℕ)
    (raised : (i a : ℕ) → i < p.points.count → a < p.actions → value i a ≡ p.points.value i a +ℤ pos by) where
  pub not_exceeded : (i a : ℕ) (amount : ℤ) → IsPointVerdict t vectors p Yes
      → IsPointVerdict t vectors (with_point_values p value) (Exceeded i a amount) → ⊥
  not_exceeded i a amount passes exceeded =
      let (il, al, before, rounded, above) = exceeded.found in
      let covered : AreCoversBy t p.points p.next exceeded.covers =
      λ j b z jl bl zl. same_by t p.points value (updated_belief t (p.points.belief j) b z) (p.next j b z) (exceeded.covers j b z)
      (exceeded.covered j b z jl bl zl) in
      let are = are_covers t p.points p.next exceeded.covers (known t p fit proper) covered in
      let backed : IsVerdictWith t passes.charges p.points exceeded.covers Yes =
      found_there t t (itself t) p.points passes.charges passes.charges (λ _ _ _ _. refl) passes.covers exceeded.covers
      (λ j b z jl bl zl. one_cover t p.points (updated_belief t (p.points.belief j) b z) (p.next j b z) _
      _ (grind arith) (covered j b z jl bl zl)) Yes passes.found in
      let charged : (b s : ℕ) → b < t.actions → s < t.states → exceeded.charges b s ≤ℤ _ =
      λ b s bl sl. charges_raised p _ by _ _ _ raised passes.charged exceeded.charged b s
      (omega arith) (omega arith) in
      fails_there t exceeded.charges _ _ i a _ exceeded.found
      (backed_raised t _ _ by _ _ (λ i a il al. raised i a il (omega (arith, al, fit.actions))) charged m less exceeded.covers i a il al
      (λ z. are i a z il al) (backed i a il al))
