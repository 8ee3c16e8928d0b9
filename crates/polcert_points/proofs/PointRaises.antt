-- What raising every value by one constant does.
use Rattle.std.proofs.Common.{◌≡◌, ℕ, zero, suc, ◌+◌, ◌-◌, ◌*◌, ◌<◌, ◌≤◌, ℤ, pos, ◌+ℤ◌, ◌-ℤ◌, ◌*ℤ◌, [], ◌∷◌, refl, sym, ap, ◌∙◌, arith}
use Rattle.std.proofs.Common.{rules}
use Rattle.polcert_points.proofs.Common.{int_max, *ℤ_comm, ints, clamps, CellTable, IsProper, one, total_below, step_scale}
use Rattle.polcert_points.proofs.Common.{greatest_below, expected_reward}
use Rattle.polcert_check.proofs.Sums.Ring.{linear, *ℤ-+ℤ, one-*ℤ}
use Rattle.polcert_check.proofs.Sums.SumLaws.{sum_below_same, sum_below_add, sum_below_scale}
use Rattle.polcert_check.proofs.Horizons.Kept.{step_weights_total}
use Rattle.polcert_points.specs.Belief.{Belief, mass, sum_over_belief, updated_belief}
use Rattle.polcert_points.specs.Points.{Points, Cover, IsCover, left_of, covered_worth, best_worth, Covers}
use Rattle.polcert_points.specs.PointRaise.{point_excess, raised_table, raised_points, taken_by_raise}
use Rattle.polcert_optimum.proofs.Informed.{swapped}
use Rattle.polcert_points.proofs.Beliefs.{taken_out, afters_are}
use Rattle.polcert_points.proofs.PointBounds.{const_sum}

module _ (t : CellTable) where
  -- ---- masses
  ones : (b : Belief) → sum_over_belief t b (λ s. pos 1) ≡ pos (mass t b)
  ones b = const_sum t b (pos 1) ∙ *ℤ_comm (pos _) (pos 1) ∙ one-*ℤ _

  pub mass_taken : (b point : Belief) (n : ℕ) → ((s : ℕ) → s < t.states → n * point s ≤ b s)
      → pos (mass t b) ≡ pos (n * mass t point) +ℤ pos (mass t (left_of b point n))
  mass_taken b point n fits =
      sym (ones b) ∙ taken_out t b _ n (λ s. pos 1) fits
      ∙ ap (λ (x : ℤ). pos n *ℤ x +ℤ sum_over_belief t (left_of b point n) (λ s. pos 1)) (ones _)
      ∙ ap (λ (x : ℤ). pos (n * mass t point) +ℤ x) (ones _)

  -- the masses after all observations
  pub masses_after : IsProper t → (b : Belief) (a : ℕ) → a < t.actions
      → total_below (λ z. pos (mass t (updated_belief t b a z))) t.observations ≡ pos (mass t b * step_scale t)
  masses_after p b a al =
      sum_below_same _ _ t.observations
      (λ z _. sym (ones _))
      ∙ sym (afters_are t b a (λ z e. pos 1))
      ∙ sum_below_same _ _ _ (λ s sl. ap (λ (x : ℤ). pos (b s) *ℤ x)
      (sym (swapped _ t.observations t.states)
      ∙ sum_below_same _ _ t.states
      (λ e _. sum_below_same _ _ t.observations (λ z _. *ℤ_comm (pos _) (pos 1)
      ∙ one-*ℤ _))
      ∙ step_weights_total t p a s al sl))
      ∙ const_sum t b (pos _)

  -- ---- one cover
  raised_sum : (b : Belief) (f : ℕ → ℤ) (by : ℕ)
      → sum_over_belief t b (λ s. f s +ℤ pos by) ≡ sum_over_belief t b f +ℤ pos (by * mass t b)
  raised_sum b f by =
      sum_below_same _ _ t.states (λ s _. *ℤ-+ℤ (pos (b s)) _ (pos by))
      ∙ sum_below_add _ (λ s. pos (b s) *ℤ pos by) t.states
      ∙ ap (λ (x : ℤ). sum_over_belief t b f +ℤ x) (const_sum t b (pos by) ∙ *ℤ_comm (pos _) (pos by))

cons_algebra : (n p by left whole : ℕ) (v rest : ℤ) → pos whole ≡ pos (n * p) +ℤ pos left
    → pos n *ℤ (pos p *ℤ (v +ℤ pos by)) +ℤ (rest +ℤ pos (by * left)) ≡ (pos n *ℤ (pos p *ℤ v) +ℤ rest) +ℤ pos (by * whole)
cons_algebra n p by left whole v rest is =
    let all : whole ≡ n * p + left = omega (arith, linear) in
    let split : pos (by * whole) ≡ pos n *ℤ (pos p *ℤ pos by) +ℤ pos (by * left) = rw all (ap pos (omega arith)) in
    omega (arith, linear, split, *ℤ-+ℤ (pos n) (pos p *ℤ v) (pos p *ℤ pos by), ap (λ (x : ℤ). pos n *ℤ x) (*ℤ-+ℤ (pos p) v (pos by)))

pub covered_raised : (t : CellTable) (charges : ℕ → ℕ → ℤ) (points : Points) (by a : ℕ) (cover : Cover) (b : Belief)
    → IsCover t points b cover
    → covered_worth t (raised_table charges by) (raised_points points by) a b cover ≡ covered_worth t charges points a b cover
    +ℤ pos (by * mass t b)
covered_raised t charges points by a [] b is = raised_sum t b _ by
covered_raised t charges points by a (c ∷ cover) b is =
    let left = left_of b _ c.1 in
    ap (λ (x : ℤ). pos c.1 *ℤ (pos (mass t (points.belief c.0)) *ℤ (points.value c.0 a +ℤ pos by)) +ℤ x)
    (covered_raised t charges points by a cover left is.2)
    ∙ cons_algebra c.1 _ by _ _ _
    _ (mass_taken t b _ c.1 is.1)

-- ---- the best next action
greatest_raised : (f : ℕ → ℤ) (n : ℕ) (c : ℤ) → 0 < n → greatest_below (λ b. f b +ℤ c) n ≡ greatest_below f n +ℤ c
greatest_raised f zero c some = grind arith
greatest_raised f (suc zero) c some = refl
greatest_raised f (suc (suc n)) c some =
    ap (λ (x : ℤ). int_max x (f (suc n) +ℤ c)) (greatest_raised f (suc n) c (omega arith))
    ∙ omega (arith, ints, clamps)

best_raised : (t : CellTable) (charges : ℕ → ℕ → ℤ) (points : Points) (by : ℕ) (cover : Cover) (b : Belief) → 0 < t.actions
    → IsCover t points b cover
    → best_worth t (raised_table charges by) (raised_points points by) b cover ≡ best_worth t charges points b cover +ℤ pos (by * mass t b)
best_raised t charges points by cover b some is = search (rules, greatest_below, covered_raised, greatest_raised)

-- ---- the excess
excess_algebra : (g u q n by : ℕ) (reward best value later : ℤ) → g ≤ u → later ≡ best +ℤ pos (by * (n * q))
    → (reward +ℤ pos g *ℤ later) -ℤ pos (q * u) *ℤ (pos n *ℤ (value +ℤ pos by))
    ≡ ((reward +ℤ pos g *ℤ best) -ℤ pos (q * u) *ℤ (pos n *ℤ value)) -ℤ pos (q * (u - g) * n * by)
excess_algebra g u q n by reward best value later l is =
    let first : pos g *ℤ later ≡ pos g *ℤ best +ℤ pos (g * (by * (n * q))) = rw is (*ℤ-+ℤ (pos g) best (pos (by * (n * q)))) in
    let second =
    ap (λ (x : ℤ). pos (q * u) *ℤ x) (*ℤ-+ℤ (pos n) value (pos by)) ∙ *ℤ-+ℤ (pos (q * u)) (pos n *ℤ value) (pos (n * by)) in
    let rest : q * u * (n * by) ≡ q * (u - g) * n * by + g * (by * (n * q)) = let whole : u ≡ (u - g) + g = omega arith in
    parts q (u - g) g n by u whole in
    omega (arith, linear, first, second, ap pos rest)
  where
    parts : (q d g n by u : ℕ) → u ≡ d + g → q * u * (n * by) ≡ q * d * n * by + g * (by * (n * q))
    parts q d g n by u is = rw is (omega arith)

pub excess_raised : (t : CellTable) → IsProper t → t.discount ≤ one → (charges : ℕ → ℕ → ℤ) (points : Points) (covers : Covers) (by i a : ℕ)
    → a < t.actions
    → ((z : ℕ) → z < t.observations → IsCover t points (updated_belief t (points.belief i) a z) (covers i a z))
    → point_excess t (raised_table charges by) (raised_points points by) covers i a
    ≡ point_excess t charges points covers i a -ℤ pos (taken_by_raise t points i by)
excess_raised t p less charges points covers by i a al are =
    let b = points.belief i in
    excess_algebra t.discount one (step_scale t) (mass t b) by (pos one *ℤ sum_over_belief t b (expected_reward t a)) _ (points.value i a) _
    less (sum_below_same _ (λ z. best_worth t charges points (updated_belief t b a z) (covers i a z) +ℤ pos by
    *ℤ pos (mass t (updated_belief t b a z))) t.observations
    (λ z zl. best_raised t charges points by (covers i a z) (updated_belief t b a z) (omega (arith, al)) (are z zl))
    ∙ sum_below_add (λ z. best_worth t charges points (updated_belief t b a z) (covers i a z))
    (λ z. pos by *ℤ pos (mass t (updated_belief t b a z))) t.observations
    ∙ ap (λ (x : ℤ). total_below (λ z. best_worth t charges points (updated_belief t b a z) (covers i a z)) t.observations +ℤ x)
    (sum_below_scale (pos by) (λ z. pos (mass t (updated_belief t b a z))) t.observations
    ∙ ap (λ (x : ℤ). pos by *ℤ x) (masses_after t p b a al)))
