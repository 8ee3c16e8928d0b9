-- A finite search: all numbers below a bound have a property, or there is a first that has not.
use Rattle.std.proofs.Common.{◌⊎◌, inl, inr, ⊎_elim, ℕ, zero, suc, ◌<◌, sym, subst, arith}
use Rattle.polcert_policy.proofs.Places.{below_or_at}

-- the first of some numbers of which this is not so
pub record FirstFailure (P : ℕ → Type 0) (n : ℕ) : Type 0 where
  pub at : ℕ
  pub inside : at < n
  pub fails : P at → ⊥
  pub before : (j : ℕ) → j < at → P j

pub all_or_first : (P : ℕ → Type 0) → ((k : ℕ) → P k ⊎ (P k → ⊥)) → (n : ℕ) → ((k : ℕ) → k < n → P k) ⊎ FirstFailure P n
all_or_first P decide zero = inl (λ k l. absurd (omega arith))
all_or_first P decide (suc n) = ⊎_elim (λ all. ⊎_elim
    (λ p. inl (λ k l. ⊎_elim (all k) (λ e. subst P (sym e) p) (below_or_at k n (omega arith))))
    (λ none. inr (record { at = n; inside = omega arith; fails = none; before = all })) (decide n))
    (λ f. inr (record { at = _; inside = omega arith; fails = f.fails; before = f.before }))
    (all_or_first P decide n)
