-- The fast informed bound holds, only such vectors bound every policy of observations, and which vectors are such.
use Rattle.std.proofs.Common.{◌≡◌, ℕ, zero, suc, ◌*◌, ◌^◌, ◌<◌, ℤ, pos, ◌+ℤ◌, ◌*ℤ◌, ◌≤ℤ◌, [], ◌∷◌, refl, sym, ap, ◌∙◌, arith}
use Rattle.polcert_optimum.proofs.Common.{CellTable, IsProper, one, total_below, end_state, ObservationPolicy, as_policy}
use Rattle.polcert_optimum.proofs.Common.{IsPolicyOf, step_weight, step_scale, expected_total, backup, DominatesBackup}
use Rattle.polcert_optimum.proofs.Common.{expected_reward, expected_value, IsInformed, AreInformed, BoundEveryObservationPolicy}
use Rattle.polcert_check.proofs.Sums.Ring.{linear, products, mul_le, ≤ℤ_trans, ≤ℤ_from_eq}
use Rattle.polcert_check.proofs.Sums.SumLaws.{sum_below_same, sum_below_le, sum_below_add}
use Rattle.polcert_check.proofs.Horizons.Kept.{sum_twice_scale}
use Rattle.polcert_check.proofs.Lowerings.Lowering.{sum_twice_add}
use Rattle.polcert_optimum.specs.Informed.{informed_backup, AreQmdp}
use Rattle.polcert_optimum.proofs.Greatest.{greatest_le, greatest_reached}
use Rattle.polcert_optimum.proofs.Bounded.{policy_after, one_step_more, no_step, bounded, backup_from_one_step}

-- ---- the backup, with the observations summed first
pub no_sum : (n : ℕ) → total_below (λ i. pos 0) n ≡ pos 0
no_sum zero = refl
no_sum (suc n) = cc (no_sum n)

pub swapped : (f : ℕ → ℕ → ℤ) (m n : ℕ) → total_below (λ e. total_below (λ z. f e z) m) n ≡ total_below (λ z. total_below (λ e. f e z) n) m
swapped f m zero = sym (no_sum m)
swapped f m (suc n) = ap (λ (x : ℤ). x +ℤ total_below (f n) m) (swapped f m n) ∙ sym (sum_below_add _ _ m)

-- ---- only then: the policy that takes the action, and then the best one for the observation
abbrev two_actions : ℕ → (ℕ → ℕ) → ObservationPolicy
two_actions a choice [] = a
two_actions a choice (z ∷ observations) = choice z

module _ (t : CellTable) where
  pub backup_parts : (next : ℕ → ℕ → ℤ) (a s : ℕ)
      → backup t next a s ≡ pos one *ℤ expected_reward t a s +ℤ pos t.discount
      *ℤ total_below (λ z. total_below (λ e. pos (step_weight t a s e z) *ℤ next e z) t.states) t.observations
  backup_parts next a s =
      let u : ℤ = pos one in
      let g : ℤ = pos _ in
      let reward = λ (e z : ℕ). pos _ *ℤ t.r a s e z in
      let later = λ (e z : ℕ). pos _ *ℤ next e z in
      sum_below_same _ _ t.states (λ e _. sum_below_same _ _ t.observations
      (λ z _. simp products))
      ∙ sum_twice_add _ _ t.observations t.states
      ∙ ap (λ (x : ℤ). x +ℤ total_below (λ e. total_below (λ z. g *ℤ later e z) t.observations) t.states)
      (sum_twice_scale u reward t.observations t.states)
      ∙ ap (λ (x : ℤ). u *ℤ expected_reward t a s +ℤ x) (sum_twice_scale g later t.observations t.states
      ∙ ap (λ (x : ℤ). g *ℤ x) (swapped later t.observations t.states))

  -- ---- whichever action's vector comes after each observation, the backup is at most the informed one, which is such a backup
  pub backup_le : (vectors : ℕ → ℕ → ℤ) (a s : ℕ) (choice : ℕ → ℕ) → ((z : ℕ) → z < t.observations → choice z < t.actions)
      → backup t (λ e z. vectors (choice z) e) a s ≤ℤ informed_backup t vectors a s
  backup_le vectors a s choice known =
      rw (backup_parts _ a s)
      (omega (
        arith,
        linear,
        mul_le t.discount _ _ (sum_below_le _ _ _ (λ z zl. greatest_le (λ b. expected_value t a s z (vectors b)) _ _ (known z zl))),
      ))

  pub best_choice : (vectors : ℕ → ℕ → ℤ) (a s : ℕ) → a < t.actions → (choice : ℕ → ℕ) × ((z : ℕ) → choice z < t.actions)
      × (backup t (λ e z. vectors (choice z) e) a s ≡ informed_backup t vectors a s)
  best_choice vectors a s al =
      let best = λ (z : ℕ). greatest_reached (λ b. expected_value t a s z (vectors b)) _ (omega arith) in (
        _,
        (λ z. (best z).1),
        cc (backup_parts _ a s, sum_below_same _ _ t.observations (λ z _. (best z).2)),
      )

  -- ---- the inequality, as an order
  pub informed_le : (vectors : ℕ → ℕ → ℤ) (a s : ℕ) → IsInformed t vectors a s
      → informed_backup t vectors a s ≤ℤ (pos (step_scale t * one) *ℤ vectors a s)
  informed_le vectors a s h = omega (arith, linear, h)

  pub informed_from_le : (vectors : ℕ → ℕ → ℤ) (a s : ℕ)
      → informed_backup t vectors a s ≤ℤ (pos (step_scale t * one) *ℤ vectors a s) → IsInformed t vectors a s
  informed_from_le vectors a s h = omega (arith, linear, h)

  pub choice_le : (vectors : ℕ → ℕ → ℤ) (a s : ℕ) → IsInformed t vectors a s → (choice : ℕ → ℕ)
      → ((z : ℕ) → z < t.observations → choice z < t.actions)
      → backup t (λ e z. vectors (choice z) e) a s ≤ℤ (pos (step_scale t * one) *ℤ vectors a s)
  choice_le vectors a s h choice known = ≤ℤ_trans _ _ _ (backup_le vectors a s _ known) (informed_le vectors a s h)

  -- ---- the bound
  total_le : (vectors : ℕ → ℕ → ℤ) → IsProper t → AreInformed t vectors → (k : ℕ) (policy : ObservationPolicy)
      → IsPolicyOf t (as_policy policy) → (s : ℕ) → s < t.states
      → expected_total t (λ history. vectors (as_policy policy history) (end_state s history)) (as_policy policy) k s ≤ℤ
      (pos (step_scale t ^ k * one ^ k) *ℤ vectors (policy []) s)
  total_le vectors p informed zero policy of s sl =
      no_step t (λ history. vectors (as_policy policy history) (end_state s history)) (as_policy policy) s
  total_le vectors p informed (suc k) policy of s sl =
      one_step_more t p _ _ of k s sl
      _ _
      (λ e z el zl. total_le vectors p informed k (λ observations. policy (z ∷ observations))
      (policy_after t _ of e z el zl) e el)
      (choice_le vectors _ s (informed _ s (of [] tt) sl) _
      (λ z zl. of ((s, z) ∷ []) (sl, zl, tt)))

  pub every_observation_policy : (vectors : ℕ → ℕ → ℤ) → IsProper t → AreInformed t vectors
      → BoundEveryObservationPolicy t vectors
  every_observation_policy vectors p informed policy of k s sl =
      bounded t p _ _ _ of k s sl
      (total_le vectors p informed k policy of s sl)

  pub informed_only_then : (vectors : ℕ → ℕ → ℤ) → BoundEveryObservationPolicy t vectors → AreInformed t vectors
  informed_only_then vectors bound a s al sl =
      let (_, known, is) = best_choice vectors a s al in
      let policy = two_actions a _ in
      informed_from_le vectors a s (≤ℤ_trans _ _ _ (≤ℤ_from_eq _ _ (sym is))
      (backup_from_one_step t _ _ _ s
      (bound policy (λ history f. grind arith) 1 s sl)))

  -- ---- one vector for all actions
  pub of_one_vector : (value : ℕ → ℤ) → DominatesBackup t value → AreInformed t (λ a s. value s)
  of_one_vector value above a s al sl =
      let (_, known, is) = best_choice (λ b e. value e) a s al in
      informed_from_le (λ b e. value e) a s (omega (arith, linear, is, above a s al sl))

  pub to_one_vector : (value : ℕ → ℤ) → AreInformed t (λ a s. value s) → DominatesBackup t value
  to_one_vector value informed a s al sl = choice_le (λ b e. value e) a s (informed a s al sl) _ (λ z zl. al)

  -- ---- QMDP
  term_le : (g w : ℕ) (r x y : ℤ) → x ≤ℤ y → (pos w *ℤ (r +ℤ pos g *ℤ x)) ≤ℤ (pos w *ℤ (r +ℤ pos g *ℤ y))
  term_le g w r x y h =
      let later = mul_le g x y h in
      mul_le w _ _ (omega (arith, linear))

  pub of_qmdp : (value : ℕ → ℤ) (vectors : ℕ → ℕ → ℤ) → AreQmdp t value vectors → AreInformed t vectors
  of_qmdp value vectors are a s al sl =
      let (choice, known, is) = best_choice vectors a s al in
      informed_from_le vectors a s (≤ℤ_trans _ _ _ (≤ℤ_from_eq _ _ (sym is)) (≤ℤ_trans _ _ _
      (grind (arith, sum_below_le, term_le))
      (are.backups a s al sl)))
