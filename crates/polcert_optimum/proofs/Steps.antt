-- Sums over the runs of k + 1 steps, split at the first step.
use Rattle.std.proofs.Common.{◌≡◌, ℕ, suc, ◌^◌, ℤ, pos, ◌+ℤ◌, ◌*ℤ◌, List, [], ◌∷◌, refl, ap, ◌∙◌, rules}
use Rattle.polcert_optimum.proofs.Common.{pow-zero, CellTable, one, total_below, Policy, after, step_weight, history_weight}
use Rattle.polcert_optimum.proofs.Common.{discounted_rewards, total_weight, expected_total}
use Rattle.polcert_check.proofs.Sums.SumLaws.{sum_below_same, sum_over_scale, sum_over_factor}
use Rattle.polcert_check.proofs.Horizons.Runs.{sum_over_runs, part_cons, total_step}
use Rattle.polcert_check.proofs.Horizons.Kept.{base_algebra}
use Rattle.polcert_optimum.specs.Policy.{discounted_total}

module _ (t : CellTable) where
  pub total_weight_suc : (policy : Policy) (k s : ℕ)
      → total_weight t policy (suc k) s ≡ total_below (λ e. total_below
      (λ z. pos (step_weight t (policy []) s e z) *ℤ total_weight t (after policy (e, z)) k e) t.observations) t.states
  total_weight_suc policy k s = search (rules, sum_below_same, sum_over_scale, sum_over_runs)

  -- the discounted rewards of a history, split at its first step
  pub discounted_rewards_cons : (policy : Policy) (k s e z : ℕ) (history : List (ℕ × ℕ))
      → discounted_rewards t policy (suc k) s ((e, z) ∷ history) ≡ pos (one ^ suc k) *ℤ t.r (policy []) s e z +ℤ pos t.discount
      *ℤ discounted_rewards t (after policy (e, z)) k e history
  discounted_rewards_cons policy k s e z history = part_cons _ k _ _

  -- the discounted total of a history, split at its first step
  pub discounted_total_cons : (end : List (ℕ × ℕ) → ℤ) (policy : Policy) (k s e z : ℕ) (history : List (ℕ × ℕ))
      → discounted_total t end policy (suc k) s ((e, z) ∷ history) ≡ pos (one ^ suc k) *ℤ t.r (policy []) s e z +ℤ pos t.discount
      *ℤ discounted_total t (λ rest. end ((e, z) ∷ rest)) (after policy (e, z)) k e history
  discounted_total_cons end policy k s e z history = total_step _ k _ _ _ _ (discounted_rewards_cons policy k s e z _)

  pub expected_total_suc : (end : List (ℕ × ℕ) → ℤ) (policy : Policy) (k s : ℕ)
      → expected_total t end policy (suc k) s ≡ total_below
      (λ e. total_below (λ z. pos (step_weight t (policy []) s e z)
      *ℤ ((pos (one ^ suc k) *ℤ t.r (policy []) s e z) *ℤ total_weight t (after policy (e, z)) k e +ℤ pos t.discount
      *ℤ expected_total t (λ rest. end ((e, z) ∷ rest)) (after policy (e, z)) k e)) t.observations) t.states
  expected_total_suc end policy k s =
      sum_over_runs t k _
      ∙ sum_below_same _ _ t.states (λ e _. sum_below_same _ _ t.observations (λ z _.
      sum_over_factor (pos _) _ (pos _)
      (λ history. pos _)
      _ _ _
      (λ history. ap (λ (y : ℤ). pos (history_weight t policy s ((e, z) ∷ history)) *ℤ y)
      (discounted_total_cons end policy k s e z _))))

  -- ---- no step
  pub total_weight_zero : (policy : Policy) (s : ℕ) → total_weight t policy 0 s ≡ pos 1
  total_weight_zero policy s = refl

  pub expected_total_zero : (end : List (ℕ × ℕ) → ℤ) (policy : Policy) (s : ℕ) → expected_total t end policy 0 s ≡ end []
  expected_total_zero end policy s = cc (pow-zero _, base_algebra _)
