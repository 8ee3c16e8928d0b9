-- What raising every vector by one constant does to the excesses, and the least constant.
use Rattle.std.proofs.Common.{◌≡◌, ℕ, zero, suc, ◌+◌, ◌-◌, ◌*◌, ◌<◌, ◌≤◌, ⊎_elim, ℤ, pos, ◌+ℤ◌, ◌*ℤ◌, ◌≤ℤ◌, ◌<ℤ◌, refl, sym, ap, ◌∙◌, subst}
use Rattle.std.proofs.Common.{arith}
use Rattle.polcert_optimum.proofs.Common.{int_max, *ℤ_comm, ints, clamps, CellTable, IsProper, one, total_below, step_scale}
use Rattle.polcert_optimum.proofs.Common.{greatest_below, expected_value, excess, AreInformed, best_value, IsGreatestExcess}
use Rattle.polcert_check.proofs.Sums.Ring.{linear, *ℤ-+ℤ}
use Rattle.polcert_check.proofs.Sums.SumLaws.{sum_below_same, sum_below_scale, sum_below_add}
use Rattle.polcert_check.proofs.Sums.RowTotals.{sum_of_pos}
use Rattle.polcert_optimum.specs.InformedRaise.{vectors_raised_by, IsLeastInformedRaise}
use Rattle.polcert_optimum.proofs.Checking.Best.{observation_weight, weights_all}

-- ---- the same number added to every vector
sum_raised : (w : ℕ → ℕ) (f : ℕ → ℤ) (b n : ℕ) (scale : ℕ) → total_below (λ i. pos (w i)) n ≡ pos scale
    → total_below (λ i. pos (w i) *ℤ (f i +ℤ pos b)) n ≡ total_below (λ i. pos (w i) *ℤ f i) n +ℤ pos (b * scale)
sum_raised w f b n scale all =
    sum_below_same _ _ n
    (λ i _. cc (*ℤ-+ℤ (pos (w i)) (f i) _, *ℤ_comm (pos (w i)) _))
    ∙ sum_below_add _ _ n
    ∙ ap (λ (x : ℤ). total_below (λ i. pos (w i) *ℤ f i) n +ℤ x)
    (sum_below_scale (pos b) _ n ∙ ap (λ (x : ℤ). pos b *ℤ x) all)

greatest_raised : (f : ℕ → ℤ) (n : ℕ) (c : ℤ) → 0 < n → greatest_below (λ b. f b +ℤ c) n ≡ greatest_below f n +ℤ c
greatest_raised f zero c some = absurd (omega arith)
greatest_raised f (suc zero) c some = refl
greatest_raised f (suc (suc n)) c some =
    ap (λ (x : ℤ). int_max x (f (suc n) +ℤ c)) (greatest_raised f (suc n) c (omega arith))
    ∙ omega (arith, ints, clamps)

module _ (t : CellTable) (p : IsProper t) (vectors : ℕ → ℕ → ℤ) (by a s : ℕ) (al : a < t.actions) (sl : s < t.states) where
  value_raised : (z b : ℕ) → expected_value t a s z (vectors_raised_by vectors by b) ≡ expected_value t a s z (vectors b)
      +ℤ pos (by * observation_weight t a s z)
  value_raised z b = sum_raised _ _ by t.states _ (sum_of_pos _ _)

  best_raised : best_value t (vectors_raised_by vectors by) a s ≡ best_value t vectors a s +ℤ pos (by * step_scale t)
  best_raised =
      sum_below_same _ _ t.observations (λ z _. (λ i. greatest_below (λ b. value_raised z b i) t.actions)
      ∙ greatest_raised (λ b. expected_value t a s z (vectors b)) _ _ (omega arith))
      ∙ sum_below_add _
      _ t.observations
      ∙ ap (λ (x : ℤ). best_value t vectors a s +ℤ x) (sum_below_scale (pos by) _ t.observations
      ∙ ap (λ (x : ℤ). pos by *ℤ x) (weights_all t p a s al sl))

  split_nat : (q d g b : ℕ) → q * (d + g) * b ≡ q * (d * b) + g * (b * q)
  split_nat q d g b = omega arith

  -- raising by `by` lowers each excess by the scale times (one - discount) times `by`
  pub excess_raised : t.discount ≤ one → excess t vectors a s ≡ excess t (vectors_raised_by vectors by) a s
      +ℤ pos (step_scale t * ((one - t.discount) * by))
  excess_raised gl =
      let later =
      ap (λ (x : ℤ). pos t.discount *ℤ x) best_raised ∙ *ℤ-+ℤ (pos _) _ (pos (by * step_scale t)) in
      omega (
        arith,
        linear,
        ap pos (let e : one ≡ (one - t.discount) + t.discount = omega arith in ap (λ (x : ℕ). (step_scale t) * x * by) e
            ∙ split_nat (step_scale t) _ _ by),
        *ℤ-+ℤ (pos (step_scale t * one)) (vectors a s) (pos by),
      )

-- ---- which constants serve
module _ (t : CellTable) (p : IsProper t) (gl : t.discount ≤ one) (vectors : ℕ → ℕ → ℤ) where
  pub informed_raised : (by : ℕ) → ((a s : ℕ) → a < t.actions → s < t.states
      → excess t vectors a s ≤ℤ pos (step_scale t * ((one - t.discount) * by))) → AreInformed t (vectors_raised_by vectors by)
  informed_raised by most a s al sl = omega (arith, linear, most a s al sl, excess_raised t p vectors by a s al sl gl)

  pub from_informed_raised : (by : ℕ) → AreInformed t (vectors_raised_by vectors by) → (a s : ℕ) → a < t.actions → s < t.states
      → excess t vectors a s ≤ℤ pos (step_scale t * ((one - t.discount) * by))
  from_informed_raised by informed a s al sl = omega (arith, linear, informed a s al sl, excess_raised t p vectors by a s al sl gl)

  -- the least constant, if the discount is below 1: the greatest excess over the factor, rounded up
  module _ (x : ℤ) (greatest : ℕ) (w : IsGreatestExcess t vectors t.actions 0 x) (xe : x ≡ pos greatest) where
    less_fails : (d : ℕ) → step_scale t * (one - t.discount) * d < greatest → AreInformed t (vectors_raised_by vectors d) → ⊥
    less_fails d h informed =
        ⊎_elim (λ (e : x ≡ pos 0). let none = sym xe ∙ e in omega (arith, linear, h))
        (λ (r : (b : ℕ) × (u : ℕ) × (b < t.actions) × (u < t.states) × (x ≡ excess t vectors b u)).
        let le =
        from_informed_raised d informed r.0 r.1 r.2 r.3 in
        let most =
        subst (λ (y : ℤ). y ≤ℤ pos (step_scale t * ((one - t.discount) * d))) (sym r.4 ∙ xe) le in
        above _ _ d _ h most)
        w.is_reached
      where
        above : (q u d g : ℕ) → q * u * d < g → pos g ≤ℤ pos (q * (u * d)) → ⊥
        above q u d g h l = omega (arith, linear)

    pub least_is : (by : ℕ) → greatest ≤ step_scale t * (one - t.discount) * by
        → ((d : ℕ) → d < by → step_scale t * (one - t.discount) * d < greatest) → IsLeastInformedRaise t vectors by
    least_is by enough least = (grind (arith, linear, informed_raised), λ d dl. less_fails d (least d dl))

  -- at a discount of 1 nothing helps
  pub no_constant : t.discount ≡ one → (a s : ℕ) → a < t.actions → s < t.states → pos 0 <ℤ excess t vectors a s → (by : ℕ)
      → AreInformed t (vectors_raised_by vectors by) → ⊥
  no_constant is_one a s al sl h by informed =
      let none : one - t.discount ≡ 0 = omega arith in
      positive_not _ _ (rw none (omega arith))
      (from_informed_raised by informed a s al sl) h
    where
      positive_not : (x : ℤ) (y : ℕ) → y ≡ 0 → x ≤ℤ pos y → pos 0 <ℤ x → ⊥
      positive_not x y e l h = omega (arith, linear)

  pub least_zero : AreInformed t vectors → IsLeastInformedRaise t vectors 0
  least_zero informed = grind (arith, informed_raised)

-- in the numbers of the code
pub candidate_least : (t : CellTable) → IsProper t → (vectors : ℕ → ℕ → ℤ) (ts os d greatest by : ℕ) (x : ℤ) → t.discount ≤ one
    → IsGreatestExcess t vectors t.actions 0 x → x ≡ pos greatest → ts ≡ t.t_scale → os ≡ t.o_scale → d ≡ t.discount
    → greatest ≤ ts * os * (1000000 - d) * by → ((e : ℕ) → e < by → ts * os * (1000000 - d) * e < greatest)
    → IsLeastInformedRaise t vectors by
unfolding one
candidate_least t p vectors ts os d greatest by x gl w xe te oe de enough least =
    let same : ts * os * (1000000 - d) ≡ step_scale t * (1000000 - t.discount) = rw (te, oe, de) refl in
    least_is t p gl _ x _ w xe by (rw (← same) enough)
    (λ e el. rw (← same) (least e el))
