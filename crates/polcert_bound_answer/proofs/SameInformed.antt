-- Tables with the same cells have the same excesses and verdicts.
use Rattle.std.proofs.Common.{◌≡◌, ℕ, zero, suc, ◌*◌, ◌<◌, ℤ, pos, ◌*ℤ◌, ◌≤ℤ◌, refl, sym, ap, ap₂, subst, arith}
use Rattle.std.specs.Int.{int_max}
use Rattle.polcert_bound_answer.proofs.Common.{CellTable, HasSameCells, IsInformed, AreInformed, InformedVerdict, IsInformedVerdict}
use Rattle.polcert_check.specs.Horizon.{total_below}
use Rattle.polcert_check.proofs.Sums.SumLaws.{sum_below_same}
use Rattle.polcert_optimum.specs.Policy.{step_weight, step_scale}
use Rattle.polcert_optimum.specs.Informed.{greatest_below, expected_reward, expected_value, excess}

pub greatest_same : (f g : ℕ → ℤ) (n : ℕ) → ((i : ℕ) → i < n → f i ≡ g i) → greatest_below f n ≡ greatest_below g n
greatest_same f g zero same = refl
greatest_same f g (suc zero) same = same 0 (omega arith)
greatest_same f g (suc (suc n)) same =
    ap₂ (λ x y. int_max x y) (greatest_same f g (suc n) (λ i l. same i (omega arith))) (same (suc n) (omega arith))

module _ (t u : CellTable) (same : HasSameCells t u) where
  weight_same : (a s e z : ℕ) → a < t.actions → s < t.states → e < t.states → z < t.observations
      → step_weight t a s e z ≡ step_weight u a s e z
  weight_same a s e z al sl el zl = ap₂ (λ x y. x * y) (same.t a s e al sl el) (same.o a e z al el zl)

  pub scale_same : step_scale t ≡ step_scale u
  scale_same = ap₂ (λ x y. x * y) same.t_scale same.o_scale

  reward_same : (a s : ℕ) → a < t.actions → s < t.states → expected_reward t a s ≡ expected_reward u a s
  reward_same a s al sl = grind (arith, sum_below_same, weight_same)

  value_same : (a s z : ℕ) (vector : ℕ → ℤ) → a < t.actions → s < t.states → z < t.observations
      → expected_value t a s z vector ≡ expected_value u a s z vector
  value_same a s z vector al sl zl = grind (arith, sum_below_same, weight_same)

  best_same : (vectors : ℕ → ℕ → ℤ) (a s z : ℕ) → a < t.actions → s < t.states → z < t.observations
      → greatest_below (λ b. expected_value t a s z (vectors b)) t.actions
      ≡ greatest_below (λ b. expected_value u a s z (vectors b)) u.actions
  best_same vectors a s z al sl zl = grind (arith, greatest_same, value_same)

  bests_same : (vectors : ℕ → ℕ → ℤ) (a s : ℕ) → a < t.actions → s < t.states
      → total_below (λ z. greatest_below (λ b. expected_value t a s z (vectors b)) t.actions) t.observations
      ≡ total_below (λ z. greatest_below (λ b. expected_value u a s z (vectors b)) u.actions) u.observations
  bests_same vectors a s al sl = grind (arith, sum_below_same, best_same)

  pub excess_same : (vectors : ℕ → ℕ → ℤ) (a s : ℕ) → a < t.actions → s < t.states → excess t vectors a s ≡ excess u vectors a s
  excess_same vectors a s al sl = grind (arith, scale_same, reward_same, bests_same)

  pub informed_there : (vectors : ℕ → ℕ → ℤ) (a s : ℕ) → a < t.actions → s < t.states → IsInformed t vectors a s → IsInformed u vectors a s
  informed_there vectors a s al sl h = subst (λ (x : ℤ). x ≤ℤ pos 0) (excess_same vectors a s al sl) h

  pub informed_back : (vectors : ℕ → ℕ → ℤ) (a s : ℕ) → a < t.actions → s < t.states → IsInformed u vectors a s → IsInformed t vectors a s
  informed_back vectors a s al sl h = subst (λ (x : ℤ). x ≤ℤ pos 0) (sym (excess_same vectors a s al sl)) h

  -- an action and a state of the one are those of the other
  action_back : (a : ℕ) → a < u.actions → a < t.actions
  action_back a l = subst (λ (n : ℕ). a < n) (sym same.actions) l

  state_back : (s : ℕ) → s < u.states → s < t.states
  state_back s l = subst (λ (n : ℕ). s < n) (sym same.states) l

  pub all_there : (vectors : ℕ → ℕ → ℤ) → AreInformed t vectors → AreInformed u vectors
  all_there vectors h a s al sl = informed_there vectors a s (action_back a al) (state_back s sl)
      (h a s (action_back a al) (state_back s sl))

  pub all_back : (vectors : ℕ → ℕ → ℤ) → AreInformed u vectors → AreInformed t vectors
  all_back vectors h a s al sl = informed_back vectors a s al sl
      (h a s (subst (λ (n : ℕ). a < n) same.actions al) (subst (λ (n : ℕ). s < n) same.states sl))

  pub verdict_there : (vectors : ℕ → ℕ → ℤ) (verdict : InformedVerdict) → IsInformedVerdict t vectors verdict
      → IsInformedVerdict u vectors verdict
  verdict_there vectors verdict h1 = grind (arith, excess_same, informed_there, action_back, state_back, all_there)

-- ---- vectors that are the same in range
module _ (t : CellTable) (xs ys : ℕ → ℕ → ℤ) (same : (a s : ℕ) → a < t.actions → s < t.states → xs a s ≡ ys a s) where
  expected_same : (a s : ℕ) → total_below (λ z. greatest_below (λ b. expected_value t a s z (xs b)) t.actions) t.observations
      ≡ total_below (λ z. greatest_below (λ b. expected_value t a s z (ys b)) t.actions) t.observations
  expected_same a s =
      sum_below_same _ (λ z. greatest_below (λ b. expected_value t a s z (ys b)) t.actions) t.observations
      (λ z _. greatest_same _ (λ b. expected_value t a s z (ys b)) t.actions
      (λ b bl. sum_below_same _ (λ e. pos (step_weight t a s e z) *ℤ ys b e) t.states
      (λ e el. ap (λ (x : ℤ). pos (step_weight t a s e z) *ℤ x) (same b e bl el))))

  pub informed_of : AreInformed t xs → AreInformed t ys
  informed_of h a s al sl = grind (arith, expected_same)
