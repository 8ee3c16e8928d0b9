-- The general form, without a graph: any policy, with a vector after each history of observations.
use Rattle.std.specs.Prelude.{ℕ, ◌*◌, ◌^◌, ◌<◌, ℤ, pos, ◌*ℤ◌, ◌≤ℤ◌, List, [], ◌∷◌, ◌++◌, map}
use Rattle.polcert_cells.specs.Tables.{CellTable}
use Rattle.polcert_check.specs.Horizon.{one}
use Rattle.polcert_optimum.specs.Bound.{backup}
use Rattle.polcert_optimum.specs.Policy.{ObservationPolicy, as_policy, end_state, step_scale, expected_total}
use Rattle.polcert_belief.specs.Belief.{Belief, sum_over_belief, belief_after, AreModelObservations}

-- what one step by action a comes to at a belief if vector `next` z follows observation z, on the scale step_scale * one
abbrev pub step_worth : CellTable → Belief → (ℕ → ℕ → ℤ) → ℕ → ℤ
step_worth t belief next a = sum_over_belief t belief (λ s. backup t (λ e z. next z e) a s)

-- After whatever observations the vector there is worth at the belief at most one step of the policy, with the vectors after it.
pub record IsBacked (t : CellTable) (policy : ObservationPolicy) (belief : Belief) (value : List ℕ → ℕ → ℤ) : Type 0 where
  pub known : (observations : List ℕ) → AreModelObservations t observations → policy observations < t.actions
  pub backed : (observations : List ℕ) → AreModelObservations t observations
      → (pos (step_scale t * one) *ℤ sum_over_belief t (belief_after t policy belief observations) (value observations))
      ≤ℤ step_worth t (belief_after t policy belief observations) (λ z. value (observations ++ (z ∷ []))) (policy observations)

-- The policy earns, in k steps and with the discounted value at the end of the vector there, at least what the first vector is worth.
abbrev pub EarnsFirst : CellTable → ObservationPolicy → Belief → (List ℕ → ℕ → ℤ) → ℕ → Type 0
EarnsFirst t policy belief value k = (pos (step_scale t ^ k * one ^ k) *ℤ sum_over_belief t belief (value []))
    ≤ℤ sum_over_belief t belief (λ s. expected_total t (λ history. value (map (λ p. p.1) history) (end_state s history)) (as_policy policy) k s)
