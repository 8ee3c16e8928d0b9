-- A policy that looks one step ahead: at each belief it takes an action that comes to most, if a best vector follows each observation. It
-- need not be the action of a best vector.
use Rattle.std.specs.Prelude.{ℕ, ◌*◌, ◌<◌, ℤ, pos, ◌+ℤ◌, ◌*ℤ◌, ◌≤ℤ◌, List}
use Rattle.polcert_check.specs.Horizon.{Controller, one, total_below}
use Rattle.polcert_optimum.specs.Informed.{expected_reward, greatest_below}
use Rattle.polcert_optimum.specs.Policy.{ObservationPolicy, step_scale}
use Rattle.polcert_belief.specs.Belief.{Belief, mass, sum_over_belief, updated, belief_after, AreModelObservations}
use Rattle.polcert_belief.specs.Following.{Selector}

-- what action a comes to at a belief if a best vector follows each observation, on the scale step_scale * one
abbrev pub ahead_worth : Controller → Belief → ℕ → ℤ
ahead_worth c belief a = pos one *ℤ sum_over_belief c.cells belief (λ s. expected_reward c.cells a s)
    +ℤ pos c.cells.discount *ℤ total_below (λ z. greatest_below (λ n. sum_over_belief c.cells (updated c.cells belief a z) (c.value n)) c.nodes) c.cells.observations

-- After whatever observations the selector picks a best vector, and the policy takes an action that comes to most, within `by` / `d`
-- millionths of the belief's mass.
pub record LooksAheadWithin (by d : ℕ) (c : Controller) (policy : ObservationPolicy) (belief : Belief) (selector : Selector) : Type 0 where
  pub are_nodes : (observations : List ℕ) → AreModelObservations c.cells observations → selector observations < c.nodes
  pub none_better : (observations : List ℕ) (m : ℕ) → AreModelObservations c.cells observations → m < c.nodes
      → sum_over_belief c.cells (belief_after c.cells policy belief observations) (c.value m) ≤ℤ sum_over_belief c.cells (belief_after c.cells policy belief observations) (c.value (selector observations))
  pub known : (observations : List ℕ) → AreModelObservations c.cells observations → policy observations < c.cells.actions
  pub none_comes_to_more : (observations : List ℕ) (a : ℕ) → AreModelObservations c.cells observations → a < c.cells.actions
      → (pos d *ℤ ahead_worth c (belief_after c.cells policy belief observations) a)
      ≤ℤ (pos d *ℤ ahead_worth c (belief_after c.cells policy belief observations) (policy observations) +ℤ pos (by * (step_scale c.cells * one * mass c.cells (belief_after c.cells policy belief observations))))
