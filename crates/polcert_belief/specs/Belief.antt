-- Beliefs: what each state weighs after the observations so far.
--
-- Source: Kaelbling, Littman and Cassandra, Planning and acting in partially observable stochastic domains (1998), section 3.3: after
-- action a and observation z the belief in state e is O(a, e, z) times the sum over s of T(a, s, e) * b(s), over what these come to.
-- Here nothing is divided: a belief is a weight for each state, and a planner tracks the weights over their sum, the mass.
use Rattle.std.specs.Prelude.{◌≡◌, ℕ, ◌*◌, ◌<◌, ◌==◌, ℤ, pos, ◌*ℤ◌, Bool, true, false, ◌&&◌, if◌then◌else◌, List, [], ◌∷◌, length, filter}
use Rattle.std.specs.List.{AllByRecursion}
use Rattle.polcert_cells.specs.Meaning.{sum_below}
use Rattle.polcert_cells.specs.Tables.{CellTable}
use Rattle.polcert_check.specs.Horizon.{total_below, sum_over, runs}
use Rattle.polcert_optimum.specs.Policy.{History, end_state, ObservationPolicy, as_policy, step_weight, history_weight}

-- a weight for each state
abbrev pub Belief : Type 0
Belief = ℕ → ℕ

-- the sum of the weights
abbrev pub mass : CellTable → Belief → ℕ
mass t belief = sum_below belief t.states

-- the sum over the states of their weight times f of the state
abbrev pub sum_over_belief : CellTable → Belief → (ℕ → ℤ) → ℤ
sum_over_belief t belief f = total_below (λ s. pos (belief s) *ℤ f s) t.states

-- the belief after action a and observation z
abbrev pub updated : CellTable → Belief → ℕ → ℕ → Belief
updated t belief a z = λ e. sum_below (λ s. belief s * step_weight t a s e z) t.states

-- the belief after observations, the first one first, if the policy takes the actions
abbrev pub belief_after : CellTable → ObservationPolicy → Belief → List ℕ → Belief
belief_after t policy belief [] = belief
belief_after t policy belief (z ∷ observations) = belief_after t (λ rest. policy (z ∷ rest)) (updated t belief (policy []) z) observations

-- each is an observation of the model
abbrev pub AreModelObservations : CellTable → List ℕ → Type 0
AreModelObservations t observations = AllByRecursion (λ z. z < t.observations) observations

-- ---- the same by histories

-- the history has these observations
abbrev pub has_observations : List ℕ → History → Bool
has_observations [] [] = true
has_observations (z ∷ observations) (p ∷ history) = (p.1 == z) && has_observations observations history
has_observations _ _ = false

-- the weight, from state s, of all histories with these observations that end at state e
abbrev pub weight_of_histories : CellTable → ObservationPolicy → List ℕ → ℕ → ℕ → ℤ
weight_of_histories t policy observations s e =
    sum_over (λ history. pos (if end_state s history == e then history_weight t (as_policy policy) s history else 0)) (filter (has_observations observations) (runs t (length observations)))

-- the belief after observations is, at each state, the weight of the histories with these observations that end there
abbrev pub AreWeightsOfHistories : CellTable → ObservationPolicy → Belief → Type 0
AreWeightsOfHistories t policy belief = (observations : List ℕ) (e : ℕ) → AreModelObservations t observations → e < t.states
    → pos (belief_after t policy belief observations e) ≡ sum_over_belief t belief (λ s. weight_of_histories t policy observations s e)
