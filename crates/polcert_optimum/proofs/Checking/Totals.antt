-- The best values that are kept, by state: those of the action so far, and then those of the action before.
use Rattle.std.proofs.Common.{◌≡◌, ℕ, ◌+◌, ◌-◌, ◌*◌, ◌<◌, ◌≤◌, ⊎_elim, ℤ, pos, ◌*ℤ◌, List, ap, ◌∙◌}
use Rattle.std.proofs.Common.{arith}
use Rattle.polcert_optimum.proofs.Common.{cases_lt, CellTable, greatest_below}
use Rattle.polcert_optimum.proofs.Common.{best_value}
use Rattle.polcert_check.proofs.Sums.SumLaws.{sum_below_same}
use Rattle.polcert_optimum.specs.Steps.Sums.{AreBestBefore, HasSameStep}

-- ---- actions with the same step
no_product : (w x y : ℕ) → w ≡ 0 → w * x ≡ w * y
no_product w x y none = rw none (omega arith)

module _ (t : CellTable) (vectors : ℕ → ℕ → ℤ) (a b s : ℕ) (same : HasSameStep t a b s) where
  pub same_step_best : best_value t vectors a s ≡ best_value t vectors b s
  same_step_best = sum_below_same _ _ _ (λ z zl i. greatest_below (λ n. (sum_below_same _ _ _ (λ e el. ap (λ (w : ℕ). pos w *ℤ vectors n e)
      (ap (λ (w : ℕ). w * t.o a e z) (same.ends e el) ∙ ⊎_elim
      (λ (some : 0 < t.t b s e). ap (λ (w : ℕ). t.t b s e * w) (same.shown e el some z zl))
      (λ (h : t.t b s e ≤ 0). no_product _ _ _ (omega arith)) (cases_lt 0 _)))) i) t.actions)

-- ---- what is kept
module _ (t : CellTable) (vectors : ℕ → ℕ → ℤ) where
  pub no_totals : (x : ℤ) (xs : List ℤ) → AreBestBefore t vectors 0 0 x xs
  no_totals x xs = record {
    last_is = λ some. absurd (omega arith);
    here = λ u ul kl. absurd (omega arith);
    before = λ u some h ul kl. absurd (omega arith);
  }

  pub next_totals : (a s : ℕ) (x : ℤ) (xs : List ℤ) → t.states ≤ s → AreBestBefore t vectors a s x xs
      → AreBestBefore t vectors (a + 1) 0 x xs
  next_totals a s x xs all are =
      let same : a + 1 - 1 ≡ a = omega arith in
      record {
        last_is = λ some. absurd (omega arith);
        here = λ u ul kl. absurd (omega arith);
        before = λ u some h ul kl. cc (are.here u (omega arith) kl, same);
      }
