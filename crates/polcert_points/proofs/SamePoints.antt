-- Tables with the same cells have the same excesses and verdicts of points. Models that are the same have the same number from the start.
use Rattle.std.proofs.Common.{◌≡◌, ℕ, zero, suc, ◌*◌, ◌<◌, ℤ, pos, ◌+ℤ◌, ◌-ℤ◌, ◌*ℤ◌, ◌≤ℤ◌, Option, Some, None, [], ◌∷◌, refl}
use Rattle.std.proofs.Common.{ap₂, subst, ◌∙◌, arith}
use Rattle.polcert_points.proofs.Common.{int_max, CellTable, Meaning, start_total, table_of, one, total_below, step_weight, greatest_below}
use Rattle.polcert_points.proofs.Common.{expected_reward}
use Rattle.polcert_cells.specs.Meaning.{IsSame}
use Rattle.polcert_cells.specs.SameCells.{HasSameCells}
use Rattle.polcert_check.proofs.Agreements.SameModels.{same_cells}
use Rattle.polcert_check.proofs.Sums.Ring.{linear}
use Rattle.polcert_check.proofs.Sums.SumLaws.{sum_below_same}
use Rattle.polcert_points.specs.Belief.{Belief, sum_over_belief, updated_belief}
use Rattle.polcert_points.specs.Points.{Points, point_worth, Cover, Covers, covered_worth, best_worth, IsPointBacked}
use Rattle.polcert_points.specs.PointRaise.{point_excess}
use Rattle.polcert_points.specs.PointCheck.{IsCoverBy, Next, AreCoversBy}
use Rattle.polcert_points.specs.PointTable.{PointTable}
use Rattle.polcert_points.specs.PointVerdict.{IsVerdictWith, IsPointVerdict}
use Rattle.polcert_points.specs.PointStartMost.{scaled_start, IsStartMostBy, IsPointStartMost}
use Rattle.polcert_points.specs.declared.point_verdict.PointVerdict.{PointVerdict}
use Rattle.polcert_points.specs.declared.point_verdict.PointVerdict.TheVariants.{Yes, Exceeded}
use Rattle.polcert_points.proofs.BestWorths.{same_sum}
use Rattle.polcert_points.proofs.NamedCovers.{same_cover, same_best}

greatest_same : (f g : ℕ → ℤ) (n : ℕ) → ((i : ℕ) → i < n → f i ≡ g i) → greatest_below f n ≡ greatest_below g n
greatest_same f g zero same = refl
greatest_same f g (suc zero) same = grind arith
greatest_same f g (suc (suc n)) same = ap₂ int_max (greatest_same f g (suc n) (λ i l. same i (omega arith))) (grind arith)

-- ---- the inequality, by the excess
pub no_excess : (t : CellTable) (charges : ℕ → ℕ → ℤ) (points : Points) (covers : Covers) (i a : ℕ)
    → IsPointBacked t charges points covers i a
    → point_excess t charges points covers i a ≤ℤ pos 0
no_excess t charges points covers i a h = omega (arith, linear)

-- ---- two tables with the same cells
module _ (t u : CellTable) (same : HasSameCells t u) where
  weight_same : (a s e z : ℕ) → a < t.actions → s < t.states → e < t.states → z < t.observations
      → step_weight t a s e z ≡ step_weight u a s e z
  weight_same a s e z al sl el zl = grind arith

  sum_same : (b : Belief) (f g : ℕ → ℤ) → ((s : ℕ) → s < t.states → f s ≡ g s) → sum_over_belief t b f ≡ sum_over_belief u b g
  sum_same b f g each = grind (arith, sum_below_same, total_below)

  after_same : (b : Belief) (a z e : ℕ) → a < t.actions → z < t.observations → e < t.states
      → updated_belief t b a z e ≡ updated_belief u b a z e
  after_same b a z e al zl el = grind (arith, same_sum, step_weight, weight_same)

  point_same : (points : Points) (i a : ℕ) → point_worth t points i a ≡ point_worth u points i a
  point_same points i a = cc

  -- an action and an observation of the one are those of the other
  action_back : (a : ℕ) → a < u.actions → a < t.actions
  action_back a l = omega arith

  observation_back : (z : ℕ) → z < u.observations → z < t.observations
  observation_back z l = omega arith

  -- ---- covers by the named points
  pub cover_there : (points : Points) (b : Belief) (named : Option ℕ) (cover : Cover) → IsCoverBy t points b named cover
      → IsCoverBy u points b named cover
  cover_there points b None cover by = by
  cover_there points b (Some j) cover by = grind arith

  pub covers_there : (points : Points) (next : Next) (covers : Covers) → AreCoversBy t points next covers → AreCoversBy u points next covers
  covers_there points next covers are i a z il al zl = grind (arith, cover_there, same_cover, after_same, action_back, observation_back)

  -- ---- with charges that are the same in range
  module _ (points : Points) (c d : ℕ → ℕ → ℤ) (charges : (a s : ℕ) → a < t.actions → s < t.states → c a s ≡ d a s) where
    covered_same : (a : ℕ) → a < t.actions → (cover : Cover) (b : Belief)
        → covered_worth t c points a b cover ≡ covered_worth u d points a b cover
    covered_same a al [] b = grind (arith, sum_same)
    covered_same a al (x ∷ cover) b = ap₂ (λ v w. pos x.1 *ℤ v +ℤ w) (point_same points x.0 a) (covered_same a al cover _)

    pub best_there : (cover : Cover) (b : Belief) → best_worth t c points b cover ≡ best_worth u d points b cover
    best_there cover b = grind (arith, greatest_same, covered_same, greatest_below)

    -- ---- and with covers that are the same in range
    module _ (k l : Covers) (covers : (i a z : ℕ) → i < points.count → a < t.actions → z < t.observations → k i a z ≡ l i a z) where
      later_same : (i a : ℕ) → i < points.count → a < t.actions
          → total_below (λ z. best_worth t c points (updated_belief t (points.belief i) a z) (k i a z)) t.observations
          ≡ total_below (λ z. best_worth u d points (updated_belief u (points.belief i) a z) (l i a z)) u.observations
      later_same i a il al = grind (arith, sum_below_same, same_best, after_same, best_there, total_below)

      pub excess_there : (i a : ℕ) → i < points.count → a < t.actions → point_excess t c points k i a ≡ point_excess u d points l i a
      excess_there i a il al =
          let rewards =
          sum_same (points.belief i) _ (expected_reward u a) (λ s sl. grind (arith, sum_below_same, weight_same)) in
          λ j. (pos one *ℤ rewards j +ℤ pos (same.discount j) *ℤ later_same i a il al j) -ℤ pos (same.t_scale j * same.o_scale j * one)
          *ℤ point_same points i a j

      backed_there : (i a : ℕ) → i < points.count → a < t.actions → IsPointBacked t c points k i a → IsPointBacked u d points l i a
      backed_there i a il al h = omega (
        arith,
        linear,
        subst (λ (x : ℤ). x ≤ℤ pos 0) (excess_there i a il al)
            (no_excess t c points k i a h),
      )

      pub found_there : (verdict : PointVerdict) → IsVerdictWith t c points k verdict → IsVerdictWith u d points l verdict
      found_there Yes h = grind (arith, backed_there, action_back)
      found_there (Exceeded i a amount) h = grind (arith, backed_there, action_back, excess_there)

-- ---- what is said of one table is said of every table with the same cells
pub point_verdict_there : (t u : CellTable) → HasSameCells t u → (vectors : ℕ → ℕ → ℤ) (p : PointTable) (verdict : PointVerdict)
    → IsPointVerdict t vectors p verdict → IsPointVerdict u vectors p verdict
point_verdict_there t u same vectors p verdict v = record {
  charges = _;
  covers = v.covers;
  charged = v.charged;
  covered = covers_there t u same p.points _ v.covers v.covered;
  found = found_there t u same p.points _ v.charges (λ a s _ _. refl) _ v.covers (λ i a z _ _ _. refl) _ v.found;
}

-- ---- the start
module _ (m n : Meaning) (same : IsSame m n) (points : Points) where
  start_same : (s : ℕ) → scaled_start m s ≡ scaled_start n s
  start_same s = cc

  start_cover_there : (named : Option ℕ) (cover : Cover) → IsCoverBy (table_of m) points (scaled_start m) named cover
      → IsCoverBy (table_of n) points (scaled_start n) named cover
  start_cover_there named cover by = grind arith

  start_cover_back : (named : Option ℕ) (cover : Cover) → IsCoverBy (table_of n) points (scaled_start n) named cover
      → IsCoverBy (table_of m) points (scaled_start m) named cover
  start_cover_back named cover by = grind arith

  start_best_there : (charges : ℕ → ℕ → ℤ) (cover : Cover)
      → best_worth (table_of m) charges points (scaled_start m) cover ≡ best_worth (table_of n) charges points (scaled_start n) cover
  start_best_there charges cover =
      same_best (table_of m) charges points _ (scaled_start m) _ (λ s _. start_same s)
      ∙ best_there (table_of m) _ (same_cells m n same) points charges _ (λ a s _ _. refl) cover _

  pub start_most_there : (charges : ℕ → ℕ → ℤ) (most : ℤ) → IsStartMostBy m charges points most → IsStartMostBy n charges points most
  start_most_there charges most is = grind (arith, start_total, start_cover_there, table_of, start_best_there, start_cover_back)

pub same_point_most : (m n : Meaning) → IsSame m n → (vectors : ℕ → ℕ → ℤ) (p : PointTable) (most : ℤ) → IsPointStartMost m vectors p most
    → IsPointStartMost n vectors p most
same_point_most m n same vectors p most is = grind (arith, start_most_there)
