-- A policy that chooses by chance earns no more than the bound either.
use Rattle.std.proofs.Common.{◌≡◌, ℕ, zero, suc, ◌*◌, ◌^◌, ◌<◌, ◌≤◌, ℤ, pos, ◌+ℤ◌, ◌*ℤ◌, ◌≤ℤ◌, Bool, true, false, [], ◌∷◌, sym, ap}
use Rattle.std.proofs.Common.{◌∙◌, subst, arith}
use Rattle.std.proofs.Math.Nat.{pow-suc}
use Rattle.polcert_optimum.proofs.Common.{pow-zero, *ℤ_comm, Meaning, HasLimitedNumbers, states_of, start_total, CellTable}
use Rattle.polcert_optimum.proofs.Common.{IsProper, table_of, PolicyVectors, value_of, one, total_below, step_weight, step_scale}
use Rattle.polcert_optimum.proofs.Common.{AreInformed, greatest_below, expected_reward, expected_value, AreAtMostFromStart}
use Rattle.polcert_cells.specs.Meaning.{actions_of, sum_below}
use Rattle.polcert_check.proofs.Sums.Ring.{linear, products, sums, mul_le, ≤ℤ_trans, ≤ℤ_from_eq, *ℤ_assoc, *ℤ_left_comm, *ℤ-+ℤ}
use Rattle.polcert_check.proofs.Sums.RowTotals.{sum_of_pos}
use Rattle.polcert_check.proofs.Sums.SumLaws.{sum_below_same, sum_below_le, sum_below_scale, sum_below_add}
use Rattle.polcert_check.proofs.Horizons.Kept.{sum_twice_scale, step_weights_total}
use Rattle.polcert_check.proofs.Lowerings.Lowering.{sum_twice_add}
use Rattle.polcert_check.proofs.Mirrors.Interval.{some_bound}
use Rattle.polcert_optimum.specs.Informed.{informed_backup}
use Rattle.polcert_optimum.specs.Seen.{IsMostOf, IsBoundStartMost, IsSeenAtMostFromStart}
use Rattle.polcert_optimum.specs.Start.{IsAtMostFromStart}
use Rattle.polcert_optimum.specs.Randomised.{RandomisedPolicy, IsRandomisedPolicyOf, after_step, mean_of_next, drawn_scale, drawn_total}
use Rattle.polcert_optimum.specs.Randomised.{drawn_rewards, drawn_with_vectors, BoundEveryRandomisedPolicy, drawn_start_scale}
use Rattle.polcert_optimum.specs.Randomised.{IsDrawnBoundedFromStart, DrawnEarnsAtMost, BoundRandomisedOf, BoundRandomisedPoliciesOfModel}
use Rattle.polcert_optimum.specs.Randomised.{RandomisedEarnAtMost, RandomisedPoliciesOfModelEarnAtMost}
use Rattle.polcert_optimum.proofs.Greatest.{greatest_le}
use Rattle.polcert_optimum.proofs.Informed.{swapped, backup_parts, informed_le}
use Rattle.polcert_optimum.proofs.Optimum.{remainder, upper_algebra}
use Rattle.polcert_optimum.proofs.Seen.{number_is}
use Rattle.polcert_optimum.proofs.SeenModels.{mean_of_kind}
use Rattle.polcert_optimum.proofs.Start.{sum_le, rewards_le}
use Rattle.polcert_optimum.proofs.Vanishing.{vanishes, at_least}

-- ---- a mean over the next action
mean_scale : (t : CellTable) (policy : RandomisedPolicy) (x : ℤ) (f : ℕ → ℤ)
    → mean_of_next t policy (λ a. x *ℤ f a) ≡ x *ℤ mean_of_next t policy f
mean_scale t policy x f = sum_below_same _ _ t.actions (λ a _. *ℤ_left_comm (pos _) x (f a)) ∙ sum_below_scale x _ t.actions

mean_mono : (t : CellTable) (policy : RandomisedPolicy) (f g : ℕ → ℤ) → ((a : ℕ) → a < t.actions → f a ≤ℤ g a)
    → mean_of_next t policy f ≤ℤ mean_of_next t policy g
mean_mono t policy f g each = sum_below_le _ _ _ (λ a al. mul_le _ _ _ (each a al))

mean_of_one : (t : CellTable) (draws : ℕ) (policy : RandomisedPolicy) → sum_below (policy []) t.actions ≡ draws → (x : ℤ)
    → mean_of_next t policy (λ a. x) ≡ pos draws *ℤ x
mean_of_one t draws policy sums x =
    sum_below_same _ _ t.actions (λ a _. *ℤ_comm _ x)
    ∙ sum_below_scale x _ t.actions ∙ ap (λ (y : ℤ). x *ℤ y) (sum_of_pos _ _ ∙ ap pos sums)
    ∙ *ℤ_comm x _

mean_at_most : (t : CellTable) (draws : ℕ) (policy : RandomisedPolicy) → sum_below (policy []) t.actions ≡ draws → (f : ℕ → ℤ)
    → mean_of_next t policy f ≤ℤ (pos draws *ℤ greatest_below f t.actions)
mean_at_most t draws policy sums f =
    ≤ℤ_trans _ _ _ (mean_mono t policy f _ (greatest_le f _))
    (≤ℤ_from_eq _ _ (mean_of_one t draws policy sums _))

-- a sum of means is a mean of sums
sum_of_means : (t : CellTable) (policy : RandomisedPolicy) (w : ℕ → ℕ) (f : ℕ → ℕ → ℤ) (n : ℕ)
    → total_below (λ s. pos (w s) *ℤ mean_of_next t policy (λ a. f a s)) n
    ≡ mean_of_next t policy (λ a. total_below (λ s. pos (w s) *ℤ f a s) n)
sum_of_means t policy w f n =
    sum_below_same _ _ n (λ s _. sym (mean_scale t policy (pos (w s)) _))
    ∙ swapped _ t.actions n
    ∙ sum_below_same _ _ t.actions (λ a _. sum_below_scale (pos _) _ n)

-- ---- one step, after which each observation leads to a mean of vectors
module _ (t : CellTable) (draws : ℕ) (vectors : ℕ → ℕ → ℤ) (policy : RandomisedPolicy) (a s : ℕ)
    (sums : (z : ℕ) → z < t.observations → sum_below (policy ((a, z) ∷ [])) t.actions ≡ draws) where
  abbrev next : ℕ → ℕ → ℤ
  next e z = mean_of_next t (after_step policy a z) (λ b. vectors b e)

  abbrev scaled : CellTable
  scaled = record t { r = λ b i e z. pos draws *ℤ t.r b i e z }

  later_le : total_below (λ z. total_below (λ e. pos (step_weight t a s e z) *ℤ next e z) t.states) t.observations ≤ℤ
      (pos draws *ℤ total_below (λ z. greatest_below (λ b. expected_value t a s z (vectors b)) t.actions) t.observations)
  later_le = ≤ℤ_trans _ _ _ (sum_below_le _ _ _ (λ z zl. ≤ℤ_trans _ _ _
      (≤ℤ_from_eq _ _ (sum_of_means t (after_step policy a z) _ _ t.states))
      (mean_at_most t draws (after_step policy a z) (sums z zl) _)))
      (≤ℤ_from_eq _ _ (sum_below_scale (pos draws) _
      t.observations))

  drawn_backup : total_below (λ e. total_below (λ z. pos (step_weight t a s e z)
      *ℤ (pos one *ℤ (pos draws *ℤ t.r a s e z) +ℤ pos t.discount *ℤ next e z)) t.observations) t.states ≤ℤ
      (pos draws *ℤ informed_backup t vectors a s)
  drawn_backup =
      let u : ℤ = pos one in
      let x : ℤ = expected_reward t a s in
      let y : ℤ = total_below (λ z. greatest_below (λ b. expected_value t a s z (vectors b)) t.actions) t.observations in
      let same : pos draws *ℤ (u *ℤ x +ℤ pos t.discount *ℤ y) ≡ u *ℤ (pos draws *ℤ x) +ℤ pos t.discount *ℤ (pos draws *ℤ y) =
      simp products in
      rw (
        backup_parts scaled next a s,
        sum_below_same _ _ t.states
            (λ e _. sum_below_same _ _ t.observations (λ z _. *ℤ_left_comm (pos (step_weight t a s e z)) (pos draws) (t.r a s e z)))
            ∙ sum_twice_scale (pos draws) _ t.observations t.states,
        same,
      )
      (omega (arith, linear, mul_le t.discount _ _ later_le))

-- ---- k steps
keeps_algebra : (x w u d g r v : ℤ) → x *ℤ (w *ℤ (u *ℤ (d *ℤ r) +ℤ g *ℤ v)) ≡ w *ℤ ((u *ℤ (d *ℤ x)) *ℤ r +ℤ g *ℤ (x *ℤ v))
keeps_algebra x w u d g r v = simp products

low_algebra : (w c g r q x : ℤ) → w *ℤ (c *ℤ r +ℤ g *ℤ q) +ℤ (g *ℤ x) *ℤ w ≡ w *ℤ (c *ℤ r +ℤ g *ℤ (q +ℤ x))
low_algebra w c g r q x = simp (products, sums)

left_algebra : (d g l low s : ℤ) → d *ℤ ((g *ℤ (l *ℤ low)) *ℤ s) ≡ (d *ℤ s *ℤ (g *ℤ l)) *ℤ low
left_algebra d g l low s = simp products

start_algebra : (t x d m : ℤ) → (t *ℤ x) *ℤ (d *ℤ m) ≡ (t *ℤ (d *ℤ x)) *ℤ m
start_algebra t x d m = simp products

keeps : (x w draws g : ℕ) (r later v : ℤ) → later ≤ℤ (pos x *ℤ v)
    → (pos w *ℤ (pos (one * (draws * x)) *ℤ r +ℤ pos g *ℤ later)) ≤ℤ (pos x *ℤ (pos w *ℤ (pos one *ℤ (pos draws *ℤ r) +ℤ pos g *ℤ v)))
keeps x w draws g r later v h = rw (keeps_algebra (pos x) (pos w) (pos one) (pos draws) (pos g) r v)
    (mul_le w _ _ (omega (arith, linear, mul_le g _ _ h)))

policy_left : (t : CellTable) (draws : ℕ) (policy : RandomisedPolicy) → IsRandomisedPolicyOf t draws policy → (a z : ℕ) → a < t.actions
    → z < t.observations → IsRandomisedPolicyOf t draws (after_step policy a z)
policy_left t draws policy of a z al zl history steps = of _ (al, zl, steps)

module _ (t : CellTable) (p : IsProper t) (draws : ℕ) where
  abbrev scale : ℕ → ℕ
  scale k = drawn_scale t draws k

  module _ (vectors : ℕ → ℕ → ℤ) (informed : AreInformed t vectors) where
    drawn_le : (k : ℕ) (policy : RandomisedPolicy) → IsRandomisedPolicyOf t draws policy → (s : ℕ) → s < t.states
        → drawn_with_vectors t draws vectors policy k s ≤ℤ (pos (scale k) *ℤ mean_of_next t policy (λ a. vectors a s))
    drawn_le zero policy of s sl = grind (arith, pow-zero)
    drawn_le (suc k) policy of s sl =
        let x : ℕ = scale k in
        let g : ℕ = t.discount in
        let q : ℕ = step_scale t * one in
        let more : (draws * step_scale t) ^ suc k * one ^ suc k ≡ x * (draws * q) =
        rw (pow-suc _ k, pow-suc one k) (omega arith) in
        ≤ℤ_trans _ _ _ (mean_mono t policy _ (λ a. pos (x * (draws * q)) *ℤ vectors a s)
        (λ a al. ≤ℤ_trans _ _ _ (sum_below_le _ _ _
        (λ e el. sum_below_le _ _ _ (λ z zl. keeps x _ draws g _ _ _
        (drawn_le k _ (policy_left t draws _ of a z al zl) e el))))
        (grind (
          arith,
          linear,
          sum_twice_scale (pos x) (λ e z. pos (step_weight t a s e z)
              *ℤ (pos one *ℤ (pos draws *ℤ t.r a s e z) +ℤ pos g *ℤ mean_of_next t (after_step policy a z) (λ b. vectors b e)))
              t.observations
              t.states,
          mul_le x _ _ (≤ℤ_trans _ _ _ (drawn_backup t draws vectors policy a s (λ z zl. of _ (al, zl, tt)))
              (mul_le draws _ _ (informed_le t vectors a s (informed a s al sl)))),
          *ℤ_assoc (pos x) (pos (draws * q)) (vectors a s),
          *ℤ_assoc (pos draws) (pos q) (vectors a s),
        ))))
        (≤ℤ_from_eq _ _ (cc (mean_scale t _ (pos (x * (draws * q))) (λ a. vectors a s), more)))

  -- ---- the rewards alone
  abbrev left : ℕ → ℕ
  left k = t.discount ^ k * (draws * (draws * step_scale t) ^ k)

  low_term : (w c g : ℕ) (r later rewards x : ℤ) → (rewards +ℤ x) ≤ℤ later
      → (pos w *ℤ (pos c *ℤ r +ℤ pos g *ℤ rewards) +ℤ (pos g *ℤ x) *ℤ pos w) ≤ℤ (pos w *ℤ (pos c *ℤ r +ℤ pos g *ℤ later))
  low_term w c g r later rewards x h = rw (low_algebra (pos w) (pos c) (pos g) r _ x) (mul_le w _ _ (omega (arith, linear, mul_le g _ _ h)))

  module _ (end : RandomisedPolicy → ℕ → ℤ) (low : ℤ)
      (least : (policy : RandomisedPolicy) → IsRandomisedPolicyOf t draws policy → (e : ℕ) → e < t.states
      → (pos draws *ℤ low) ≤ℤ end policy e) where
    low_le : (k : ℕ) (policy : RandomisedPolicy) → IsRandomisedPolicyOf t draws policy → (s : ℕ) → s < t.states
        → (drawn_rewards t draws policy k s +ℤ pos (left k) *ℤ low) ≤ℤ drawn_total t draws end policy k s
    low_le zero policy of s sl = let h = least _ of s sl in grind (arith, pow-zero)
    low_le (suc k) policy of s sl =
        let c : ℕ = one * (draws * scale k) in
        let g : ℕ = t.discount in
        let x : ℤ = pos _ *ℤ low in
        let w = λ (a e z : ℕ). step_weight t a s e z in
        let rewards = λ (a e z : ℕ). pos (w a e z) *ℤ _
        in
        let earned = λ (a : ℕ). total_below _ t.states in
        let each : (a : ℕ) → a < t.actions → (earned a +ℤ (pos g *ℤ x) *ℤ pos _)
        ≤ℤ total_below _ t.states =
        λ a al. ≤ℤ_trans _ _ _
        (≤ℤ_from_eq _ _ (sym (sum_twice_add (rewards a) _ t.observations t.states
        ∙ ap (λ (y : ℤ). earned a +ℤ y) (sum_twice_scale _ _ t.observations t.states
        ∙ ap (λ (y : ℤ). (pos g *ℤ x) *ℤ y) (step_weights_total t p a s al sl)))))
        (sum_below_le _ _ _ (λ e el. sum_below_le _ _ _ (λ z zl.
        low_term _ c g _ _ _ x (low_le k _ (policy_left t draws _ of a z al zl) e el)))) in
        let all =
        sum_below_same _ _ t.actions (λ a _. *ℤ-+ℤ (pos _) (earned a) _)
        ∙ sum_below_add _ _ t.actions
        ∙ ap (λ (y : ℤ). drawn_rewards t draws policy (suc k) s +ℤ y)
        (mean_of_one t draws policy (of [] tt) _) in
        let same =
        left_algebra (pos draws) (pos g) (pos _) low _ in
        ≤ℤ_trans _ _ _
        (≤ℤ_from_eq _ _ (ap (λ (y : ℤ). drawn_rewards t draws policy (suc k) s +ℤ y)
        (ap (λ (y : ℕ). pos y *ℤ low) (rw (pow-suc g k, pow-suc _ k) (omega arith)) ∙ sym same)
        ∙ sym all))
        (mean_mono t policy _ _ each)

pub every_randomised_policy : (t : CellTable) → IsProper t → (vectors : ℕ → ℕ → ℤ) → AreInformed t vectors
    → BoundEveryRandomisedPolicy t vectors
every_randomised_policy t p vectors informed draws policy of k s sl = (
  drawn_le t p draws _ informed k _ of s sl,
  (λ low least. ≤ℤ_trans _ _ _ (low_le t p draws _ low
      (λ left is e el. ≤ℤ_trans _ _ _ (≤ℤ_from_eq _ _ (sym (mean_of_one t draws left (is [] tt) low)))
      (mean_mono t left _ _ (λ b bl. least b e bl el)))
      k _ of s sl)
      (drawn_le t p draws _ informed k _ of s sl)),
)

-- ---- from a model's start
module _ (m : Meaning) (limits : HasLimitedNumbers m) (p : IsProper (table_of m)) (vectors : ℕ → ℕ → ℤ)
    (informed : AreInformed (table_of m) vectors) (most : ℤ) (draws : ℕ) where
  abbrev first_mean : (ℕ → RandomisedPolicy) → ℕ → ℤ
  first_mean policy s = mean_of_next (table_of m) (policy s) (λ a. vectors a s)

  from_first_mean : (policy : ℕ → RandomisedPolicy) → ((s : ℕ) → s < states_of m → IsRandomisedPolicyOf (table_of m) draws (policy s))
      → IsAtMostFromStart m (first_mean policy) (pos draws *ℤ most) → (k : ℕ)
      → IsDrawnBoundedFromStart m vectors draws policy k most
  from_first_mean policy of mean k =
      let x : ℕ = drawn_scale (table_of m) draws k in
      let total : ℕ = start_total m in
      let same =
      start_algebra (pos total) (pos x) (pos draws) most in
      let bounds = λ (s : ℕ) (sl : s < states_of m). every_randomised_policy _ p _ informed draws _ (of s sl) k s
      sl in
      record {
        total = ≤ℤ_trans _ _ _ (sum_le m x _ _ _ (λ s sl. (bounds s sl).0) mean) (≤ℤ_from_eq _ _ same);
        rewards = λ low least. omega (arith, linear, rewards_le m limits x _ low _ _ _ (λ s sl. (bounds s sl).1 low least) mean);
      }

  mean_of_each : AreAtMostFromStart m vectors most → (policy : RandomisedPolicy) → IsRandomisedPolicyOf (table_of m) draws policy
      → IsAtMostFromStart m (first_mean (λ s. policy)) (pos draws *ℤ most)
  mean_of_each mean policy of =
      ≤ℤ_trans _ _ _ (≤ℤ_from_eq _ _ (sum_of_means (table_of m) policy _ _ (states_of m)))
      (≤ℤ_trans _ _ _ (mean_mono (table_of m) policy _ _ mean)
      (≤ℤ_from_eq _ _ (mean_of_one (table_of m) draws policy (of [] tt) _
      ∙ *ℤ_left_comm (pos draws) (pos _) most)))

  mean_of_best : IsSeenAtMostFromStart m vectors most → (policy : ℕ → RandomisedPolicy)
      → ((s : ℕ) → s < states_of m → IsRandomisedPolicyOf (table_of m) draws (policy s))
      → IsAtMostFromStart m (first_mean policy) (pos draws *ℤ most)
  mean_of_best mean policy of =
      ≤ℤ_trans _ _ _
      (sum_below_le _ _ _ (λ s sl. ≤ℤ_trans _ _ _
      (mul_le _ _ _ (mean_at_most (table_of m) draws (policy s) (of s sl [] tt) _))
      (≤ℤ_from_eq _ _ (*ℤ_left_comm (pos _) (pos draws) _))))
      (≤ℤ_trans _ _ _ (≤ℤ_from_eq _ _ (sum_below_scale (pos draws) _ (states_of m)))
      (≤ℤ_trans _ _ _ (mul_le draws _ _ mean) (≤ℤ_from_eq _ _ (*ℤ_left_comm (pos draws) (pos _) most))))

-- ---- in the long run
long_run : (m : Meaning) → IsProper (table_of m) → (vectors : ℕ → ℕ → ℤ) (most : ℤ) (draws : ℕ) (policy : ℕ → RandomisedPolicy)
    → m.preamble.discount < one → ((k : ℕ) → IsDrawnBoundedFromStart m vectors draws policy k most)
    → DrawnEarnsAtMost m draws policy most
long_run m p vectors most draws policy less bounds d some =
    let g : ℕ = m.preamble.discount in
    let (b, within) = some_bound vectors _ _ in (
      _,
      (λ k late.
          let q : ℕ = (draws * step_scale (table_of m)) ^ k in
          let scale : ℕ = drawn_start_scale m draws k in
          let a : ℕ = start_total m * (g ^ k * (draws * q)) in
          let same : start_total m * (draws * q * one ^ k) ≡ scale = omega arith in
          let small = subst (λ (n : ℕ). d * (a * b) ≤ n) same
          (remainder _ d b _ _ _ (vanishes g one _ k less late)) in
          ≤ℤ_trans _ _ _
          (upper_algebra d a b scale _ _
          ((bounds k).rewards _ (λ i s il sl. at_least _ b (within i s il sl))) small)
          (≤ℤ_from_eq _ _ (cc (*ℤ_assoc (pos d) (pos scale) most)))),
    )

-- ---- by whether the model is an MDP
module _ (m : Meaning) (limits : HasLimitedNumbers m) (p : IsProper (table_of m)) (v : PolicyVectors) (same : v.nodes ≡ actions_of m)
    (informed : AreInformed (table_of m) (value_of v)) (most : ℤ) where
  bound_of_kind : (mdp : Bool) → IsMostOf mdp m v most → BoundRandomisedOf mdp m (value_of v) most
  bound_of_kind true is = λ draws policy of. from_first_mean m limits p _ informed most draws _ of
      (mean_of_best m limits p _ informed most draws (number_is m v most same is) _ of)
  bound_of_kind false is = λ draws policy of. from_first_mean m limits p _ informed most draws _ (λ s sl. of)
      (mean_of_each m limits p _ informed most draws (mean_of_kind m v same most false is) _ of)

  pub model_randomised : IsBoundStartMost m v most → BoundRandomisedPoliciesOfModel m (value_of v) most
  model_randomised = bound_of_kind _

  earned_of_kind : m.preamble.discount < one → (mdp : Bool) → BoundRandomisedOf mdp m (value_of v) most → RandomisedEarnAtMost mdp m most
  earned_of_kind less true bound = λ draws policy of. long_run m p _ most draws _ less (bound draws _ of)
  earned_of_kind less false bound = λ draws policy of. long_run m p _ most draws _ less (bound draws _ of)

  pub model_randomised_earn : m.preamble.discount < one → IsBoundStartMost m v most → RandomisedPoliciesOfModelEarnAtMost m most
  model_randomised_earn less is = earned_of_kind less _ (model_randomised is)
