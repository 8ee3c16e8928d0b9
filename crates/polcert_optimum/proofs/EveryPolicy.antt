-- A value for each state that dominates its backup bounds every policy and every mixture, and only such a value does.
use Rattle.std.proofs.Common.{ℕ, zero, suc, ◌*◌, ◌^◌, ◌<◌, ℤ, pos, ◌*ℤ◌, ◌≤ℤ◌, List, [], ◌∷◌, sym, arith}
use Rattle.polcert_optimum.proofs.Common.{zero-*ℤ, CellTable, IsProper, one, end_state, Policy, IsPolicyOf, step_scale}
use Rattle.polcert_optimum.proofs.Common.{expected_total, DominatesBackup}
use Rattle.std.specs.List.{AllByRecursion}
use Rattle.polcert_check.proofs.Sums.Ring.{linear, mul_le, ≤ℤ_from_eq, +ℤ-*ℤ}
use Rattle.polcert_optimum.specs.Bound.{BoundsEveryPolicy, mixture_weight, mixture_sum, BoundsEveryMixture}
use Rattle.polcert_optimum.proofs.Bounded.{policy_after, one_step_more, no_step, bounded, backup_from_one_step}

total_le : (t : CellTable) (value : ℕ → ℤ) → IsProper t → DominatesBackup t value → (k : ℕ) (policy : Policy) → IsPolicyOf t policy
    → (s : ℕ) → s < t.states → expected_total t (λ history. value (end_state s history)) policy k s ≤ℤ
    (pos (step_scale t ^ k * one ^ k) *ℤ value s)
total_le t value p above zero policy of s sl = no_step t (λ history. value (end_state s history)) policy s
total_le t value p above (suc k) policy of s sl =
    one_step_more t p _ _ of k s sl _ _
    (λ e z el zl. total_le t value p above k _ (policy_after t _ of e z el zl) e el)
    (above _ s (of [] tt) sl)

pub every_policy : (t : CellTable) (value : ℕ → ℤ) → IsProper t → DominatesBackup t value → BoundsEveryPolicy t value
every_policy t value p above policy of k s sl = bounded t p _ _ _ of k s sl (total_le t value p above k _ of s sl)

-- ---- mixtures
-- what is at most x for each policy is at most x times the weight for a mixture
pub mixture_le : {P : Type 0} (Is : P → Type 0) (f : P → ℤ) (x : ℤ) → ((policy : P) → Is policy → f policy ≤ℤ x) → (mixture : List (ℕ × P))
    → AllByRecursion (λ m. Is m.1) mixture → mixture_sum f mixture ≤ℤ (mixture_weight mixture *ℤ x)
mixture_le Is f x each [] of = ≤ℤ_from_eq _ _ (sym (zero-*ℤ x))
mixture_le Is f x each (m ∷ mixture) of =
    omega (arith, linear, +ℤ-*ℤ (pos m.0) (mixture_weight mixture) x, mixture_le Is f x each mixture of.1, mul_le m.0 _ _ (each m.1 of.0))

pub every_mixture : (t : CellTable) (value : ℕ → ℤ) → BoundsEveryPolicy t value → BoundsEveryMixture t value
every_mixture t value bounds mixture of k s sl =
    mixture_le _ _
    _
    (λ policy is. (bounds _ is k s sl).total) _ of

-- ---- only then: the policy that always takes the action, for one step
pub only_then : (t : CellTable) (value : ℕ → ℤ) → BoundsEveryPolicy t value → DominatesBackup t value
only_then t value bounds a s al sl = backup_from_one_step t _ _ _ s (bounds _ (λ history f. al) 1 s sl)
