-- What holds at each end state that is reached, one more at a time.
use Rattle.std.proofs.Common.{◌≡◌, ℕ, ◌+◌, ◌<◌, ◌≤◌, ⊎_elim, subst, arith}
use Rattle.polcert_optimum.proofs.Common.{cases_lt}

module _ (w : ℕ → ℕ) (P : ℕ → Type 0) (from to : ℕ) (none : (k : ℕ) → from ≤ k → k < to → w k ≡ 0)
    (before : (k : ℕ) → k < from → 0 < w k → P k) where
  -- no weight up to a place further on
  pub reached_on : (k : ℕ) → k < to → 0 < w k → P k
  reached_on k kl some = ⊎_elim (λ (l : k < from). before k l some) (λ (h : from ≤ k). absurd (omega arith)) (cases_lt k from)

  -- and one more there
  pub reached_more : P to → (k : ℕ) → k < to + 1 → 0 < w k → P k
  reached_more here k kl some = ⊎_elim (λ (l : k < to). reached_on k l some) (λ (h : to ≤ k). subst P (omega arith) here) (cases_lt k to)
