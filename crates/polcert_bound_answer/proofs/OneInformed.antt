-- A check of vectors has one verdict, and what a verdict says of the bound.
use Rattle.std.proofs.Common.{◌≡◌, ℕ, ℤ, pos, ◌≤ℤ◌, ◌<ℤ◌, subst, arith}
use Rattle.polcert_bound_answer.proofs.Common.{CellTable, IsProper, IsInformed, InformedVerdict, Yes, Exceeded, IsInformedVerdict}
use Rattle.polcert_check.proofs.Sums.Ring.{linear}
use Rattle.polcert_optimum.specs.InformedCheck.{MeetsInformedPromise}
use Rattle.polcert_optimum.proofs.Informed.{every_observation_policy, informed_only_then}

not_above : (x : ℤ) → x ≤ℤ pos 0 → pos 0 <ℤ x → ⊥
not_above x l h = omega (arith, linear)

pub fails_there : (t : CellTable) (vectors : ℕ → ℕ → ℤ) (a s : ℕ) (amount : ℤ) → IsInformedVerdict t vectors (Exceeded a s amount)
    → IsInformed t vectors a s → ⊥
fails_there t vectors a s amount h informed = not_above _ informed (subst (λ (x : ℤ). pos 0 <ℤ x) h.3 h.4)

pub one_informed_verdict : (t : CellTable) (vectors : ℕ → ℕ → ℤ) (x y : InformedVerdict) → IsInformedVerdict t vectors x
    → IsInformedVerdict t vectors y → x ≡ y
one_informed_verdict t vectors x y h1 h2 = grind arith

pub meets : (t : CellTable) (vectors : ℕ → ℕ → ℤ) → IsProper t → (verdict : InformedVerdict) → IsInformedVerdict t vectors verdict
    → MeetsInformedPromise t vectors verdict
meets t vectors proper Yes informed = every_observation_policy t vectors proper informed
meets t vectors proper (Exceeded a s amount) h = λ bound. fails_there t vectors a s amount h
    (informed_only_then t vectors bound a s h.0 h.1)
