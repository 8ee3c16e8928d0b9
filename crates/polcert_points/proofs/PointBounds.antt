-- Points that are backed bound every policy of observations, at each point and at each belief with a cover.
use Rattle.std.proofs.Common.{◌≡◌, ℕ, zero, suc, ◌*◌, ◌^◌, ◌<◌, ℤ, pos, ◌+ℤ◌, ◌*ℤ◌, ◌≤ℤ◌, [], ◌∷◌, sym, ap, ◌∙◌, arith}
use Rattle.polcert_points.proofs.Common.{CellTable, IsProper, one, total_below, ObservationPolicy, as_policy, IsPolicyOf, step_scale}
use Rattle.polcert_points.proofs.Common.{expected_rewards, expected_total, expected_reward, AreInformed}
use Rattle.polcert_check.proofs.Sums.Ring.{linear, mul_le, ≤ℤ_trans, ≤ℤ_from_eq, *ℤ_assoc, *ℤ_left_comm, *ℤ-+ℤ}
use Rattle.polcert_check.proofs.Sums.SumLaws.{sum_below_same, sum_below_le, sum_below_add, sum_below_scale, sum_over_times}
use Rattle.polcert_check.proofs.Sums.RowTotals.{sum_of_pos}
use Rattle.polcert_check.proofs.Horizons.Kept.{scale_suc}
use Rattle.polcert_points.specs.Belief.{Belief, mass, sum_over_belief, updated_belief}
use Rattle.polcert_points.specs.Points.{Points, point_worth, AreCharges, Cover, covered_worth, best_worth, Covers, AreBacked, IsBelowValues}
use Rattle.polcert_points.specs.Points.{PointsBoundEveryObservationPolicy, IsAtMostAt, BoundsEveryObservationPolicyAt}
use Rattle.polcert_optimum.proofs.Bounded.{policy_after, weights_all, one_step_more, no_step, total_parts}
use Rattle.polcert_optimum.proofs.Greatest.{greatest_le}
use Rattle.polcert_optimum.proofs.Informed.{choice_le}
use Rattle.polcert_points.proofs.Beliefs.{continued, later, one_more, belief_parts, afters_are, sum_below_times, belief_le, cancel}
use Rattle.polcert_points.proofs.Beliefs.{charge_le, cover_le}

-- ---- one end value for all histories
pub const_total : (t : CellTable) → IsProper t → (m : ℤ) (policy : ObservationPolicy) → IsPolicyOf t (as_policy policy) → (k s : ℕ)
    → s < t.states
    → expected_total t (λ history. m) (as_policy policy) k s ≡ expected_rewards t (as_policy policy) k s
    +ℤ pos (t.discount ^ k * step_scale t ^ k) *ℤ m
const_total t p m policy of k s sl =
    total_parts t _ _ k s
    ∙ ap (λ (x : ℤ). expected_rewards t (as_policy policy) k s +ℤ pos (t.discount ^ k) *ℤ x)
    (sum_over_times m (λ history. pos _) _
    ∙ ap (λ (x : ℤ). x *ℤ m) (weights_all t p k _ of s sl))
    ∙ ap (λ (x : ℤ). (expected_rewards t (as_policy policy) k s) +ℤ x) (sym (*ℤ_assoc (pos (t.discount ^ k)) (pos (step_scale t ^ k)) m))

-- one number over a belief
pub const_sum : (t : CellTable) (b : Belief) (x : ℤ) → sum_over_belief t b (λ s. x) ≡ pos (mass t b) *ℤ x
const_sum t b x = sum_below_times _ x t.states ∙ ap (λ (y : ℤ). y *ℤ x) (sum_of_pos b _)

-- ---- the induction over the number of steps
step_bound : (x g u : ℕ) (r later best : ℤ) → later ≤ℤ (pos x *ℤ best)
    → (pos x *ℤ (pos u *ℤ r) +ℤ pos g *ℤ later) ≤ℤ (pos x *ℤ (pos u *ℤ r +ℤ pos g *ℤ best))
step_bound x g u r later best h =
    omega (arith, linear, mul_le g _ _ h, *ℤ_left_comm (pos g) (pos x) best, *ℤ-+ℤ (pos x) (pos u *ℤ r) (pos g *ℤ best))

module _ (t : CellTable) (vectors charges : ℕ → ℕ → ℤ) (points : Points) (covers : Covers) (p : IsProper t)
    (informed : AreInformed t vectors) (charged : AreCharges t vectors points charges) (are : AreBacked t charges points covers) (low : ℤ)
    (below : IsBelowValues t vectors points low) where
  abbrev pub end_low : ObservationPolicy → ℕ → ℕ → ℤ
  end_low policy k s = expected_total t (λ history. low) (as_policy policy) k s

  -- from each state
  pub states_le : (k : ℕ) (policy : ObservationPolicy) → IsPolicyOf t (as_policy policy) → (s : ℕ) → s < t.states
      → end_low policy k s ≤ℤ (pos (step_scale t ^ k * one ^ k) *ℤ vectors (policy []) s)
  states_le zero policy of s sl =
      ≤ℤ_trans _ _ _ (no_step t (λ history. low) (as_policy policy) s)
      (mul_le _ _ _ (below.vectors_above _ s (of [] tt) sl))
  states_le (suc k) policy of s sl =
      one_step_more t p _ _ of k s sl _ _
      (λ e z el zl. states_le k (continued policy z) (policy_after t _ of e z el zl) e el)
      (choice_le t vectors _ s (informed _ s (of [] tt) sl) _
      (λ z zl. of ((s, z) ∷ []) (sl, zl, tt)))

  -- a policy of the model has a state and an observation after which it continues as one
  goes_on : (policy : ObservationPolicy) → IsPolicyOf t (as_policy policy) → (e z : ℕ) → e < t.states → z < t.observations
      → IsPolicyOf t (as_policy (continued policy z))
  goes_on policy of e z el zl = policy_after t _ of e z el zl

  -- from each point
  pub points_le : (k : ℕ) (policy : ObservationPolicy) → IsPolicyOf t (as_policy policy) → 0 < t.states → (i : ℕ) → i < points.count
      → sum_over_belief t (points.belief i) (end_low policy k) ≤ℤ (pos (step_scale t ^ k * one ^ k) *ℤ point_worth t points i (policy []))
  points_le zero policy of some i il =
      let x : ℕ = step_scale t ^ 0 * one ^ 0 in
      ≤ℤ_trans _ _ _ (belief_le t x _ (end_low policy 0) _
      (λ s sl. no_step t (λ history. low) (as_policy policy) s))
      (mul_le x _ _ (≤ℤ_trans _ _ _ (≤ℤ_from_eq _ _ (const_sum t (points.belief i) low))
      (mul_le _ _ _ (below.points_above i (policy []) il (of [] tt)))))
  points_le (suc k) policy of some i il =
      let a = policy [] in
      let b : Belief = points.belief i in
      let x = step_scale t ^ k * one ^ k in
      let al : a < t.actions = of [] tt in
      let split =
      sum_below_same _ _ t.states (λ s sl. ap (λ (y : ℤ). pos (b s) *ℤ y) (one_more t p low policy of k s sl))
      ∙ belief_parts t b (pos x) (pos one) (pos _) (expected_reward t a)
      _
      ∙ ap (λ (y : ℤ). pos x *ℤ (pos one *ℤ sum_over_belief t b (expected_reward t a)) +ℤ pos t.discount *ℤ y)
      (afters_are t b a (λ z e. end_low (continued policy z) k e)) in
      let each : (z : ℕ) → z < t.observations → sum_over_belief t _ (λ e. end_low (continued policy z) k e) ≤ℤ
      _ =
      λ z zl. ≤ℤ_trans _ _ _
      (cover_le t charges points (policy (z ∷ [])) x _
      (charge_le t vectors _ points charged _ x (λ e. end_low (continued policy z) k e)
      (of ((0, z) ∷ []) (some, zl, tt)) (λ e el. states_le k (continued policy z) (goes_on policy of e z el zl) e el)
      (points_le k (continued policy z) (goes_on policy of 0 z some zl) some))
      (λ j jl. points_le k (continued policy z) (goes_on policy of 0 z some zl) some j jl)
      _ (updated_belief t b a z) (grind arith))
      (mul_le x _ _ (greatest_le (λ next. covered_worth t charges points next (updated_belief t b a z) (covers i a z)) t.actions
      _ (of ((0, z) ∷ []) (some, zl, tt)))) in
      let later_le : total_below (λ z. sum_over_belief t (updated_belief t b a z) (λ e. end_low (continued policy z) k e)) t.observations ≤ℤ
      (pos x *ℤ total_below (λ z. best_worth t charges points (updated_belief t b a z) (covers i a z)) t.observations) =
      ≤ℤ_trans _ _ _ (sum_below_le _ _ _ each)
      (≤ℤ_from_eq _ _ (sum_below_scale (pos x) (λ z. best_worth t charges points (updated_belief t b a z) (covers i a z)) t.observations))
      in
      rw (scale_suc _ k (point_worth t points i a))
      (≤ℤ_trans _ _ _ (≤ℤ_from_eq _ _ split)
      (≤ℤ_trans _ _ _ (step_bound x _ one (sum_over_belief t b (expected_reward t a)) _ _ later_le)
      (mul_le x _ _ (are.backed i a il al))))

  pub belief_at_most : (k : ℕ) (policy : ObservationPolicy) → IsPolicyOf t (as_policy policy) → 0 < t.states
      → (b : Belief) (times : ℕ) (cover : Cover) (most : ℤ) → IsAtMostAt t charges points b times cover most
      → sum_over_belief t b (end_low policy k) ≤ℤ (pos (step_scale t ^ k * one ^ k) *ℤ (pos (mass t b) *ℤ most))
  belief_at_most k policy of some b times cover most is =
      let x = step_scale t ^ k * one ^ k in
      let covered =
      cover_le t charges points _ x _
      (charge_le t _ _ _ charged _ x _ (of [] tt) (states_le k policy of)
      (points_le k policy of some)) (points_le k policy of some) _ _ is.cover_is in
      let best =
      ≤ℤ_trans _ _ _ (greatest_le (λ a. covered_worth t charges points a (λ s. times * b s) cover) _ _ (of [] tt))
      is.at_most in
      let turned =
      ap (λ (y : ℤ). pos x *ℤ y) (*ℤ_assoc (pos _) (pos _) most) ∙ *ℤ_left_comm (pos x) (pos _) _ in
      cancel _ _ _ is.some
      (≤ℤ_trans _ _ _ (≤ℤ_from_eq _ _ (sym (sum_below_same _ (λ s. pos times *ℤ (pos (b s) *ℤ (end_low policy k) s)) t.states
      (λ s _. *ℤ_assoc (pos times) (pos (b s)) ((end_low policy k) s))
      ∙ sum_below_scale (pos times) (λ s. pos (b s) *ℤ (end_low policy k) s) t.states)))
      (≤ℤ_trans _ _ _ covered (≤ℤ_trans _ _ _ (mul_le x _ _ best) (≤ℤ_from_eq _ _ turned))))

  -- ---- the rewards alone
  pub rewards_apart : (k : ℕ) (policy : ObservationPolicy) → IsPolicyOf t (as_policy policy) → (b : Belief)
      → sum_over_belief t b (end_low policy k) ≡ sum_over_belief t b (expected_rewards t (as_policy policy) k)
      +ℤ pos (t.discount ^ k * step_scale t ^ k) *ℤ (pos (mass t b) *ℤ low)
  rewards_apart k policy of b =
      let a = t.discount ^ k * step_scale t ^ k in
      let c = pos a *ℤ low in
      sum_below_same _ _ _
      (λ s sl. ap (λ (y : ℤ). pos (b s) *ℤ y) (const_total t p low policy of k s sl)
      ∙ *ℤ-+ℤ (pos _) _ c)
      ∙ sum_below_add _ _ t.states
      ∙ ap (λ (y : ℤ). sum_over_belief t b (expected_rewards t (as_policy policy) k) +ℤ y) (const_sum t b c)
      ∙ ap (λ (y : ℤ). (sum_over_belief t b (expected_rewards t (as_policy policy) k)) +ℤ y) (*ℤ_left_comm (pos (mass t b)) (pos a) low)

module _ (t : CellTable) (vectors : ℕ → ℕ → ℤ) (charges : ℕ → ℕ → ℤ) (points : Points) (covers : Covers) where
  pub points_bound : IsProper t → 0 < t.states
      → AreInformed t vectors → AreCharges t vectors points charges → AreBacked t charges points covers
      → PointsBoundEveryObservationPolicy t vectors points
  points_bound p some informed charged are policy of k i il low below =
      ≤ℤ_trans _ _ _ (≤ℤ_from_eq _ _ (sym (rewards_apart t _ _ _ _ p informed charged are low below k policy of
      _))) (points_le t _ _ _ _ p informed charged are low below k policy of some i il)

  pub belief_bound : IsProper t → 0 < t.states
      → AreInformed t vectors → AreCharges t vectors points charges → AreBacked t charges points covers
      → (b : Belief) (times : ℕ) (cover : Cover) (most : ℤ) → IsAtMostAt t charges points b times cover most
      → BoundsEveryObservationPolicyAt t vectors points b most
  belief_bound p some informed charged are b times cover most is policy of k low below =
      ≤ℤ_trans _ _ _ (≤ℤ_from_eq _ _ (sym (rewards_apart t _ _ _ _ p informed charged are low below k policy of b)))
      (belief_at_most t _ _ _ _ p informed charged are low below k policy of some b _ _ most is)
