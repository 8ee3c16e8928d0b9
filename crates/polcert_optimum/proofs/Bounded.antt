-- From a bound on one step to a bound on k steps, and to the rewards alone.
use Rattle.std.proofs.Common.{◌≡◌, ℕ, zero, suc, ◌*◌, ◌^◌, ◌<◌, ℤ, pos, ◌+ℤ◌, ◌*ℤ◌, ◌≤ℤ◌, [], ◌∷◌, sym, ap, ◌∙◌, arith, length}
use Rattle.polcert_optimum.proofs.Common.{pow-zero, *ℤ_comm, CellTable, IsProper, one, runs, IsRunInRange, History, end_state}
use Rattle.polcert_optimum.proofs.Common.{Policy, IsPolicyOf, after, step_weight, step_scale, history_weight}
use Rattle.polcert_optimum.proofs.Common.{total_weight, expected_total, expected_rewards, backup, IsBounded}
use Rattle.std.proofs.Math.Nat.{pow-suc}
use Rattle.polcert_check.specs.Horizon.{sum_over}
use Rattle.polcert_check.proofs.Sums.Ring.{linear, mul_le, ≤ℤ_trans, ≤ℤ_from_eq, *ℤ_assoc}
use Rattle.polcert_check.proofs.Sums.SumLaws.{sum_below_same, sum_below_le, sum_over_times, sum_over_parts, sum_over_le_all}
use Rattle.polcert_check.proofs.Horizons.Kept.{keeps_step, scale_suc, sum_twice_scale, step_weights_total}
use Rattle.polcert_check.proofs.Horizons.Enumerated.{All-runs}
use Rattle.polcert_check.proofs.Horizons.Refused.{pow_one, one_step_algebra}
use Rattle.polcert_optimum.proofs.Steps.{total_weight_suc, total_weight_zero, expected_total_suc, expected_total_zero}

-- ---- one step more
abbrev pub backup_term : CellTable → ℤ → ℕ → ℕ → ℕ → ℕ → ℤ
backup_term t v a s e z = pos (step_weight t a s e z) *ℤ (pos one *ℤ t.r a s e z +ℤ pos t.discount *ℤ v)

-- ---- the rewards alone
abbrev pub ends_sum : CellTable → (History → ℤ) → Policy → ℕ → ℕ → ℤ
ends_sum t end policy k s = sum_over (λ history. pos (history_weight t policy s history) *ℤ end history) (runs t k)

module _ (t : CellTable) where
  pub policy_after : (policy : Policy) → IsPolicyOf t policy → (e z : ℕ) → e < t.states → z < t.observations
      → IsPolicyOf t (after policy (e, z))
  policy_after policy of e z el zl history in_range = of _ (el, zl, in_range)

  pub end_state_in_range : (history : History) (s : ℕ) → s < t.states → IsRunInRange t history
      → end_state s history < t.states
  end_state_in_range [] s sl f = sl
  end_state_in_range (p ∷ history) s sl f = end_state_in_range history p.0 f.0 f.2

  -- ---- the weights of the runs of k steps sum to their scale
  pub weights_all : IsProper t → (k : ℕ) (policy : Policy) → IsPolicyOf t policy → (s : ℕ) → s < t.states
      → total_weight t policy k s ≡ pos (step_scale t ^ k)
  weights_all p zero policy of s sl = cc (total_weight_zero t _ s, pow-zero _)
  weights_all p (suc k) policy of s sl =
      let q : ℤ = pos _ in
      total_weight_suc t _ k s
      ∙ sum_below_same _ _ _
      (λ e el. sum_below_same _ _ _ (λ z zl.
      ap (λ (x : ℤ). pos (step_weight t (policy []) s e z) *ℤ x)
      (weights_all p k _ (policy_after _ of e z el zl) e el)
      ∙ *ℤ_comm (pos _) q))
      ∙ sum_twice_scale q _ t.observations t.states
      ∙ ap (λ (x : ℤ). q *ℤ x) (step_weights_total t p _ s (of [] tt) sl)
      ∙ ap pos (sym (pow-suc _ k))

  step_term : (w k a s e z : ℕ) (weights later v : ℤ) → weights ≡ pos (step_scale t ^ k)
      → later ≤ℤ (pos (step_scale t ^ k * one ^ k) *ℤ v)
      → (pos w *ℤ ((pos (one ^ suc k) *ℤ t.r a s e z) *ℤ weights +ℤ pos t.discount *ℤ later)) ≤ℤ
      (pos (step_scale t ^ k * one ^ k) *ℤ (pos w *ℤ (pos one *ℤ t.r a s e z +ℤ pos t.discount *ℤ v)))
  step_term w k a s e z weights later v are at_most =
      rw (are, keeps_step _ k w _ _ v)
      (mul_le w _ _ (omega (arith, linear, mul_le t.discount _ _ at_most)))

  -- If after each first step the next k steps come to at most `next`, and the first step with `next` after it to at most v, then the
  -- k + 1 steps come to at most v.
  pub one_step_more : IsProper t → (end : History → ℤ) (policy : Policy) → IsPolicyOf t policy → (k s : ℕ) → s < t.states
      → (next : ℕ → ℕ → ℤ) (v : ℤ)
      → ((e z : ℕ) → e < t.states → z < t.observations → expected_total t (λ rest. end ((e, z) ∷ rest)) (after policy (e, z)) k e ≤ℤ
      (pos (step_scale t ^ k * one ^ k) *ℤ next e z))
      → backup t next (policy []) s ≤ℤ (pos (step_scale t * one) *ℤ v)
      → expected_total t end policy (suc k) s ≤ℤ (pos (step_scale t ^ suc k * one ^ suc k) *ℤ v)
  one_step_more p end policy of k s sl next v later first =
      let x : ℕ = step_scale t ^ k * one ^ k in
      rw (scale_suc _ k v, expected_total_suc t end _ k s) (≤ℤ_trans _ _ _
      (sum_below_le _ _ _ (λ e el. sum_below_le _ _ _
      (λ z zl. step_term _ k _ s e z _ _ _
      (weights_all p k _ (policy_after _ of e z el zl) e el) (later e z el zl))))
      (≤ℤ_trans _ _ _ (≤ℤ_from_eq _ _ (sum_twice_scale (pos x) _ t.observations t.states))
      (mul_le x _ _ first)))

  -- no step
  pub no_step : (end : History → ℤ) (policy : Policy) (s : ℕ)
      → expected_total t end policy 0 s ≤ℤ (pos (step_scale t ^ 0 * one ^ 0) *ℤ end [])
  no_step end policy s = grind (arith, pow-zero)

  pub total_parts : (end : History → ℤ) (policy : Policy) (k s : ℕ)
      → expected_total t end policy k s ≡ expected_rewards t policy k s +ℤ pos (t.discount ^ k) *ℤ ends_sum t end policy k s
  total_parts end policy k s = sum_over_parts (pos _) (λ history. pos _) _ end (runs t k)

  ends_le : IsProper t → (end : History → ℤ) (m : ℤ) → ((history : History) → IsRunInRange t history → m ≤ℤ end history)
      → (k : ℕ) (policy : Policy) → IsPolicyOf t policy → (s : ℕ) → s < t.states
      → (pos (step_scale t ^ k) *ℤ m) ≤ℤ ends_sum t end policy k s
  ends_le p end m least k policy of s sl =
      rw (sym (weights_all p k _ of s sl), sym (sum_over_times m (λ history. pos (history_weight t policy s history)) (runs t k)))
      (sum_over_le_all (λ history. (length history ≡ k) × IsRunInRange t _) _ _ _
      (λ history f. mul_le _ _ _ (least _ f.1)) (All-runs t k))

  -- what is said of rewards and end values gives the rest of the bound
  pub bounded : IsProper t → (end : History → ℤ) (value : ℤ) (policy : Policy) → IsPolicyOf t policy → (k s : ℕ)
      → s < t.states
      → expected_total t end policy k s ≤ℤ (pos (step_scale t ^ k * one ^ k) *ℤ value) → IsBounded t end value policy k s
  bounded p end value policy of k s sl total = record {
    weights = weights_all p k _ of s sl;
    total = total;
    rewards = alone;
  }
    where
      alone : (m : ℤ) → ((history : History) → IsRunInRange t history → m ≤ℤ end history)
          → (expected_rewards t policy k s +ℤ pos (t.discount ^ k * step_scale t ^ k) *ℤ m) ≤ℤ (pos (step_scale t ^ k * one ^ k) *ℤ value)
      alone m least =
          let h : ℕ = t.discount ^ k in
          let q : ℕ = step_scale t ^ k in
          let parts =
          total_parts end policy k s in
          let ends =
          mul_le h _ _ (ends_le p end m least k _ of s sl) in
          let same = sym (*ℤ_assoc (pos h) (pos q) m) in
          omega (arith, linear)

  -- ---- exactly one step
  one_step : (end : History → ℤ) (policy : Policy) (s : ℕ)
      → expected_total t end policy 1 s ≡ backup t (λ e z. end ((e, z) ∷ [])) (policy []) s
  one_step end policy s =
      expected_total_suc t end _ 0 s
      ∙ sum_below_same _ _ t.states (λ e _. sum_below_same _ _ t.observations (λ z _.
      ap (λ (x : ℤ). pos (step_weight t (policy []) s e z) *ℤ ((pos (one ^ 1) *ℤ t.r (policy []) s e z) *ℤ pos 1 +ℤ pos t.discount *ℤ x))
      (expected_total_zero t (λ rest. end ((e, z) ∷ rest)) (after policy (e, z)) e)
      ∙ one_step_algebra (pos _) (pos t.discount) _ _))

  -- so a bound on one step is an inequality of the backup
  pub backup_from_one_step : (end : History → ℤ) (value : ℤ) (policy : Policy) (s : ℕ) → IsBounded t end value policy 1 s
      → backup t (λ e z. end ((e, z) ∷ [])) (policy []) s ≤ℤ (pos (step_scale t * one) *ℤ value)
  backup_from_one_step end value policy s bound = grind (arith, pow_one, one_step)
