-- What a policy earns from a belief in one step more, and what covers say of it.
use Rattle.std.proofs.Common.{⊎_elim, ◌≡◌, ℕ, zero, suc, ◌-◌, ◌*◌, ◌^◌, ◌<◌, ◌≤◌, ℤ, pos, ◌+ℤ◌, ◌*ℤ◌, ◌≤ℤ◌, [], ◌∷◌, sym, ap, ◌∙◌, arith}
use Rattle.polcert_points.proofs.Common.{*ℤ_comm, zero-*ℤ, cases_lt, CellTable, IsProper, one, total_below, ObservationPolicy, as_policy}
use Rattle.polcert_points.proofs.Common.{IsPolicyOf, step_weight, step_scale, expected_total, expected_reward}
use Rattle.std.proofs.Math.Nat.{pow-suc}
use Rattle.polcert_check.proofs.Sums.Ring.{linear, products, mul_le, below_cancel, *ℤ_left_comm, ≤ℤ_trans, ≤ℤ_from_eq, *ℤ_assoc, *ℤ-+ℤ}
use Rattle.polcert_check.proofs.Sums.Ring.{+ℤ-*ℤ}
use Rattle.polcert_check.proofs.Sums.SumLaws.{sum_below_same, sum_below_le, sum_below_add, sum_below_scale}
use Rattle.polcert_check.proofs.Sums.RowTotals.{sum_of_pos}
use Rattle.polcert_check.proofs.Horizons.Kept.{sum_twice_scale}
use Rattle.polcert_check.proofs.Lowerings.Lowering.{sum_twice_add}
use Rattle.polcert_points.specs.Belief.{Belief, sum_over_belief, updated_belief}
use Rattle.polcert_points.specs.Points.{Points, point_worth, IsAtState, AreCharges, Cover, left_of, IsCover, covered_worth}
use Rattle.polcert_optimum.proofs.Steps.{expected_total_suc}
use Rattle.polcert_optimum.proofs.Bounded.{policy_after, weights_all}
use Rattle.polcert_optimum.proofs.Informed.{no_sum, swapped}

-- how a policy of observations continues after a first one
abbrev pub continued : ObservationPolicy → ℕ → ObservationPolicy
continued policy z = λ observations. policy (z ∷ observations)

-- ---- one step more from a state, with the rewards apart
step_algebra : (w q h u r g v : ℤ) → w *ℤ (((h *ℤ u) *ℤ r) *ℤ q +ℤ g *ℤ v) ≡ (q *ℤ h) *ℤ (u *ℤ (w *ℤ r)) +ℤ g *ℤ (w *ℤ v)
step_algebra w q h u r g v = simp products

step_term : (q k w g : ℕ) (r weights v : ℤ) → weights ≡ pos q
    → pos w *ℤ ((pos (one ^ suc k) *ℤ r) *ℤ weights +ℤ pos g *ℤ v) ≡ pos (q * one ^ k) *ℤ (pos one *ℤ (pos w *ℤ r)) +ℤ pos g *ℤ (pos w *ℤ v)
step_term q k w g r weights v is = cc (is, step_algebra _ (pos q) (pos _) _ r _ v, pow-suc one k)

module _ (t : CellTable) (p : IsProper t) (m : ℤ) (policy : ObservationPolicy) (of : IsPolicyOf t (as_policy policy)) (k : ℕ) where
  -- what follows the first step, by its observation and end state
  abbrev pub later : ℕ → ℕ → ℤ
  later z e = expected_total t (λ history. m) (as_policy (continued policy z)) k e

  pub one_more : (s : ℕ) → s < t.states → expected_total t (λ history. m) (as_policy policy) (suc k) s
      ≡ pos (step_scale t ^ k * one ^ k) *ℤ (pos one *ℤ expected_reward t (policy []) s) +ℤ pos t.discount
      *ℤ total_below (λ z. total_below (λ e. pos (step_weight t (policy []) s e z) *ℤ later z e) t.states) t.observations
  one_more s sl =
      let x = pos (step_scale t ^ k * one ^ k) in
      let u = pos one in
      let g : ℤ = pos _ in
      let reward = λ (e z : ℕ). pos (step_weight t (policy []) s e z) *ℤ t.r _ s e z in
      let next = λ (e z : ℕ). pos (step_weight t (policy []) s e z) *ℤ later z e in
      expected_total_suc t _ (as_policy policy) k s
      ∙ sum_below_same _ _ t.states
      (λ e el. sum_below_same _ _ t.observations (λ z zl.
      step_term _ k (step_weight t (policy []) s e z) _ (t.r (policy []) s e z)
      _ (later z e)
      (weights_all t p k _ (policy_after t (as_policy policy) of e z el zl) e el)))
      ∙ sum_twice_add _ (λ e z. g *ℤ next e z) t.observations t.states
      ∙ ap (λ (y : ℤ). y +ℤ total_below (λ e. total_below (λ z. g *ℤ next e z) t.observations) t.states)
      (sum_twice_scale x _ t.observations t.states
      ∙ ap (λ (y : ℤ). x *ℤ y) (sum_twice_scale u reward t.observations t.states))
      ∙ ap (λ (y : ℤ). x *ℤ (u *ℤ expected_reward t (policy []) s) +ℤ y)
      (sum_twice_scale g next t.observations t.states ∙ ap (λ (y : ℤ). g *ℤ y) (swapped next t.observations t.states))

-- ---- sums over a belief
pub belief_parts : (t : CellTable) (b : Belief) (x u g : ℤ) (r v : ℕ → ℤ)
    → sum_over_belief t b (λ s. x *ℤ (u *ℤ r s) +ℤ g *ℤ v s) ≡ x *ℤ (u *ℤ sum_over_belief t b r) +ℤ g *ℤ sum_over_belief t b v
belief_parts t b x u g r v =
    sum_below_same _ _ t.states
    (λ s _. simp products)
    ∙ sum_below_add _ _ t.states
    ∙ ap (λ (y : ℤ). y +ℤ total_below (λ s. g *ℤ (pos (b s) *ℤ v s)) t.states)
    (sum_below_scale x _ t.states
    ∙ ap (λ (y : ℤ). x *ℤ y) (sum_below_scale u _ t.states))
    ∙ ap (λ (y : ℤ). x *ℤ (u *ℤ sum_over_belief t b r) +ℤ y) (sum_below_scale g _ t.states)

-- a sum of weights times one number
pub sum_below_times : (f : ℕ → ℤ) (x : ℤ) (n : ℕ) → total_below (λ i. f i *ℤ x) n ≡ total_below f n *ℤ x
sum_below_times f x n = sum_below_same _ _ n (λ i _. *ℤ_comm _ x) ∙ sum_below_scale x f n ∙ *ℤ_comm x _

module _ (t : CellTable) (b : Belief) (a : ℕ) where
  -- what is expected after an observation, over a belief, is a sum over the belief that follows
  pub after_is : (z : ℕ) (f : ℕ → ℤ)
      → sum_over_belief t b (λ s. total_below (λ e. pos (step_weight t a s e z) *ℤ f e) t.states)
      ≡ sum_over_belief t (updated_belief t b a z) f
  after_is z f =
      let term = λ (s e : ℕ). pos (b s * step_weight t a s e z) *ℤ f e in
      sum_below_same _ _ t.states (λ s _.
      sym (sum_below_scale (pos (b s)) _ t.states)
      ∙ sum_below_same _ (λ e. term s e) t.states (λ e _. sym (*ℤ_assoc (pos _) (pos (step_weight t a s e z)) _)))
      ∙ swapped term t.states t.states
      ∙ sum_below_same _ (λ e. pos (updated_belief t b a z e) *ℤ f e) t.states (λ e _.
      sum_below_times _ (f e) t.states
      ∙ ap (λ (y : ℤ). y *ℤ f e) (sum_of_pos _ t.states))

  -- and over all observations
  pub afters_are : (f : ℕ → ℕ → ℤ)
      → sum_over_belief t b (λ s. total_below (λ z. total_below (λ e. pos (step_weight t a s e z) *ℤ f z e) t.states) t.observations)
      ≡ total_below (λ z. sum_over_belief t (updated_belief t b a z) (f z)) t.observations
  afters_are f =
      let part = λ (s z : ℕ). total_below (λ e. pos (step_weight t a s e z) *ℤ f z e) t.states in
      sum_below_same _ _ t.states
      (λ s _. sym (sum_below_scale (pos (b s)) _ t.observations))
      ∙ swapped (λ s z. pos (b s) *ℤ part s z) t.observations t.states
      ∙ sum_below_same _ _ t.observations (λ z _. after_is z (f z))

-- ---- covers
pub taken_out : (t : CellTable) (b point : Belief) (n : ℕ) (f : ℕ → ℤ) → ((s : ℕ) → s < t.states → n * point s ≤ b s)
    → sum_over_belief t b f ≡ pos n *ℤ sum_over_belief t point f +ℤ sum_over_belief t (left_of b point n) f
taken_out t b point n f fits =
    sum_below_same _ _ _
    (λ s sl. let whole : pos (b s) ≡ pos (n * (point s)) +ℤ pos ((b s) - n * (point s)) = omega (arith, linear, fits s sl) in
    rw whole (+ℤ-*ℤ (pos (n * (point s))) (pos ((b s) - n * (point s))) (f s)
    ∙ ap (λ (y : ℤ). y +ℤ pos ((b s) - n * (point s)) *ℤ (f s)) (*ℤ_assoc (pos n) (pos (point s)) (f s))))
    ∙ sum_below_add _ _ t.states
    ∙ ap (λ (y : ℤ). y +ℤ sum_over_belief t (left_of b point n) f) (sum_below_scale (pos n) _ t.states)

pub belief_le : (t : CellTable) (x : ℕ) (b : Belief) (f g : ℕ → ℤ) → ((s : ℕ) → s < t.states → f s ≤ℤ (pos x *ℤ g s))
    → sum_over_belief t b f ≤ℤ (pos x *ℤ sum_over_belief t b g)
belief_le t x b f g each =
    ≤ℤ_trans _ _ _ (sum_below_le _ _ _
    (λ s sl. ≤ℤ_trans _ _ _ (mul_le _ _ _ (each s sl)) (≤ℤ_from_eq _ _ (simp products))))
    (≤ℤ_from_eq _ _ (sum_below_scale (pos x) _ t.states))

cover_algebra : (x n : ℕ) (at_point worth rest covered : ℤ) → at_point ≤ℤ (pos x *ℤ worth) → rest ≤ℤ (pos x *ℤ covered)
    → (pos n *ℤ at_point +ℤ rest) ≤ℤ (pos x *ℤ (pos n *ℤ worth +ℤ covered))
cover_algebra x n at_point worth rest covered h k =
    let turned : pos n *ℤ (pos x *ℤ worth) ≡ pos x *ℤ (pos n *ℤ worth) = simp products in
    omega (arith, linear, mul_le n _ _ h, *ℤ-+ℤ (pos x) (pos n *ℤ worth) covered, k)

-- What is at most x times the vector at each state, and at most x times the worth at each point, is so of a belief with a cover.
pub cover_le : (t : CellTable) (charges : ℕ → ℕ → ℤ) (points : Points) (a x : ℕ) (f : ℕ → ℤ)
    → ((s : ℕ) → s < t.states → f s ≤ℤ (pos x *ℤ charges a s))
    → ((i : ℕ) → i < points.count → sum_over_belief t (points.belief i) f ≤ℤ (pos x *ℤ point_worth t points i a))
    → (cover : Cover) (b : Belief) → IsCover t points b cover → sum_over_belief t b f ≤ℤ (pos x *ℤ covered_worth t charges points a b cover)
cover_le t charges points a x f states at_points [] b is = belief_le t x b f _ states
cover_le t charges points a x f states at_points (c ∷ cover) b is =
    ≤ℤ_trans _ _ _ (≤ℤ_from_eq _ _ (taken_out t b _ c.1 f is.1))
    (cover_algebra x c.1 _ _ _ _ (at_points c.0 is.0) (cover_le t charges points a x f states at_points cover
    _ is.2))

-- ---- charges
pub cancel : (n : ℕ) (x y : ℤ) → 0 < n → (pos n *ℤ x) ≤ℤ (pos n *ℤ y) → x ≤ℤ y
cancel n x y some h = omega (arith, linear, below_cancel n x (y +ℤ pos 1) (omega (arith, linear, *ℤ-+ℤ (pos n) y (pos 1))))

none_below : (g : ℕ → ℤ) (n : ℕ) → ((e : ℕ) → e < n → g e ≡ pos 0) → total_below g n ≡ pos 0
none_below g n none = sum_below_same g _ n none ∙ no_sum n

pub one_term : (g : ℕ → ℤ) (s n : ℕ) → s < n → ((e : ℕ) → e < n → (e ≡ s → ⊥) → g e ≡ pos 0) → total_below g n ≡ g s
one_term g s zero l others = grind arith
one_term g s (suc n) l others =
    ⊎_elim
    (λ (k : s < n). let zero_at = others n (omega arith) (λ e. omega arith) in
    omega (arith, linear, one_term g s n k (λ e el no. others e (omega (arith, el)) no)))
    (λ (k : n ≤ s). let is : s ≡ n = omega arith in rw is
    (omega (arith, linear, none_below g n (λ e el. others e (omega (arith, el)) (λ same. omega (arith, el, same, k))))))
    (cases_lt s n)

-- What is at most x times the vector at each state, and at most x times the worth at each point, is at most x times the charge.
pub charge_le : (t : CellTable) (vectors charges : ℕ → ℕ → ℤ) (points : Points) → AreCharges t vectors points charges
    → (a x : ℕ) (f : ℕ → ℤ) → a < t.actions → ((s : ℕ) → s < t.states → f s ≤ℤ (pos x *ℤ vectors a s))
    → ((i : ℕ) → i < points.count → sum_over_belief t (points.belief i) f ≤ℤ (pos x *ℤ point_worth t points i a)) → (s : ℕ) → s < t.states
    → f s ≤ℤ (pos x *ℤ charges a s)
charge_le t vectors charges points are a x f al states at_points s sl =
    ⊎_elim
    (λ (e : charges a s ≡ vectors a s). rw e (states s sl))
    (λ (c : (i : ℕ) × (i < points.count) × IsAtState t _ i s × (charges a s ≡ points.value i a)).
    let w = points.belief c.0 s in
    let worth =
    ap (λ (y : ℤ). y *ℤ points.value c.0 a) (sym (sum_of_pos (points.belief c.0) t.states)
    ∙ one_term (λ e. pos (points.belief c.0 e)) s t.states sl (λ e el no. ap pos (c.2.alone e el no))) in
    let le =
    ≤ℤ_trans _ _ _ (≤ℤ_from_eq _ _ (sym (one_term (λ e. pos (points.belief c.0 e) *ℤ f e) s t.states sl
    (λ e el no. rw (c.2.alone e el no) (zero-*ℤ (f e))))))
    (≤ℤ_trans _ _ _ (at_points c.0 c.1) (≤ℤ_from_eq _ _
    (ap (λ (y : ℤ). pos x *ℤ y) worth ∙ *ℤ_left_comm (pos x) (pos w) _))) in
    rw c.3 (cancel w _ _ c.2.some le))
    (are a s al sl)
