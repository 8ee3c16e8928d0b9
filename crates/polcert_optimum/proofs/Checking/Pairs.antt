-- What is known of vectors that fit, and of the actions and states that are checked so far.
use Rattle.std.proofs.Common.{ℕ, ◌+◌, ◌*◌, ◌<◌, ◌≤◌, ⊎_elim, ℤ, pos, ◌<ℤ◌, unsigned_abs, subst, arith}
use Rattle.polcert_optimum.proofs.Common.{cases_lt, ints, largest, CellTable, PolicyVectors, value_of, excess, IsInformed}
use Rattle.polcert_optimum.proofs.Common.{BoundEveryObservationPolicy}
use Rattle.polcert_policy.specs.Vectors.{AreProperVectors, CanShift}
use Rattle.polcert_check.proofs.Certificates.{value_is_in_range, value_is_within}
use Rattle.polcert_check.proofs.Sums.Ring.{linear}
use Rattle.polcert_optimum.specs.InformedCheck.{FitActions, AreInformedBefore}
use Rattle.polcert_optimum.proofs.Informed.{informed_only_then}

pub vectors_small : (t : CellTable) (v : PolicyVectors) → FitActions t v → AreProperVectors v → (b e : ℕ) → b < t.actions → e < t.states
    → unsigned_abs (value_of v b e) ≤ largest
vectors_small t v fit proper b e bl el = value_is_within v proper b e (omega arith) (omega arith)

module _ (t : CellTable) (vectors : ℕ → ℕ → ℤ) where
  -- one action more
  pub action_more : (a : ℕ) → ((b u : ℕ) → b < a → u < t.states → IsInformed t vectors b u)
      → ((u : ℕ) → u < t.states → IsInformed t vectors a u) → (b u : ℕ) → b < a + 1 → u < t.states → IsInformed t vectors b u
  action_more a before here b u bl ul = ⊎_elim (λ (l : b < a). before b u l ul)
      (λ (h : a ≤ b). subst (λ (x : ℕ). IsInformed t vectors x u) (omega arith) (here u ul)) (cases_lt b a)

  pub all_before : (a s : ℕ) → ((b u : ℕ) → b < a → u < t.states → IsInformed t vectors b u) → ((u : ℕ) → u < s → IsInformed t vectors a u)
      → AreInformedBefore t vectors a s
  all_before a s actions states b u bl ul before = grind arith

  -- vectors that are exceeded somewhere don't bound every policy
  pub no_bound : (a s : ℕ) → a < t.actions → s < t.states → pos 0 <ℤ excess t vectors a s → BoundEveryObservationPolicy t vectors → ⊥
  no_bound a s al sl above bound = omega (arith, linear, informed_only_then t vectors bound a s al sl)

-- a constant that leaves all values in range is small
pub constant_small : (v : PolicyVectors) → AreProperVectors v → (by : ℕ) → CanShift v (pos by) → by ≤ 2 * largest
constant_small v proper by can =
    let r = value_is_in_range v proper 0 0 proper.some_nodes proper.some_states in
    let l = can 0 0 proper.some_nodes proper.some_states in
    omega (arith, ints, l.0, l.1)
