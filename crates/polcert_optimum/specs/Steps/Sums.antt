-- Helper definitions of private functions: one sum for each observation. Nobody has to believe them.
use Rattle.std.specs.Prelude.{◌≡◌, ℕ, ◌-◌, ◌<◌, ◌≤◌, ◌⊎◌, unsigned_abs, ℤ, pos, ◌*ℤ◌, ◌≤ℤ◌, List, slice_index_or}
use Rattle.polcert_cells.specs.Tables.{CellTable}
use Rattle.polcert_check.specs.Horizon.{total_below}
use Rattle.polcert_check.specs.Verdict.{IsBefore}
use Rattle.polcert_check.specs.Steps.Ranges.{most_sum}
use Rattle.polcert_optimum.specs.Policy.{step_weight}
use Rattle.polcert_optimum.specs.Informed.{greatest_below, expected_value, excess}
use Rattle.polcert_optimum.specs.declared.best_values.TheConstants.{KEPT_STATES}

-- the sum of observation z
abbrev pub sum_of : List ℤ → ℕ → ℤ
sum_of sums z = slice_index_or sums z (pos 0)

-- what the first end states, this many, add to the expected value of a vector where z is observed
abbrev pub value_until : CellTable → (ℕ → ℤ) → ℕ → ℕ → ℕ → ℕ → ℤ
value_until t vector a s count z = total_below (λ e. pos (step_weight t a s e z) *ℤ vector e) count

-- each observation's sum is that
pub record AreValuesUntil (t : CellTable) (vector : ℕ → ℤ) (a s count : ℕ) (sums : List ℤ) : Type 0 where
  pub each : (z : ℕ) → z < t.observations → sum_of sums z ≡ value_until t vector a s count z

-- each observation's sum is the greatest expected value of the vectors of the first actions, this many
pub record AreGreatestValues (t : CellTable) (vectors : ℕ → ℕ → ℤ) (a s count : ℕ) (sums : List ℤ) : Type 0 where
  pub each : (z : ℕ) → z < t.observations → sum_of sums z ≡ greatest_below (λ b. expected_value t a s z (vectors b)) count

-- no sum over the first observations is large
pub record AreSmallSums (count : ℕ) (sums : List ℤ) : Type 0 where
  pub each : (k : ℕ) → k ≤ count → unsigned_abs (total_below (sum_of sums) k) ≤ most_sum

-- the expected value of the best vector after each observation
abbrev pub best_value : CellTable → (ℕ → ℕ → ℤ) → ℕ → ℕ → ℤ
best_value t vectors a s = total_below (λ z. greatest_below (λ b. expected_value t a s z (vectors b)) t.actions) t.observations

-- the end states that the action reaches from the state show the same as end state `first`
pub record ShowSame (t : CellTable) (a s first : ℕ) : Type 0 where
  pub within : first < t.states
  pub each : (e : ℕ) → e < t.states → 0 < t.t a s e → (z : ℕ) → z < t.observations → t.o a e z ≡ t.o a first z

-- all show the same as some
abbrev pub IsUninformative : CellTable → ℕ → ℕ → Type 0
IsUninformative t a s = (first : ℕ) × ShowSame t a s first

-- what the end states add to the expected value of a vector, whatever is observed
abbrev pub mean_value : CellTable → (ℕ → ℤ) → ℕ → ℕ → ℤ
mean_value t vector a s = total_below (λ e. pos (t.t a s e) *ℤ vector e) t.states

-- two actions reach the same end states from the state, with the same weights, and show the same there
pub record HasSameStep (t : CellTable) (a b s : ℕ) : Type 0 where
  pub ends : (e : ℕ) → e < t.states → t.t a s e ≡ t.t b s e
  pub shown : (e : ℕ) → e < t.states → 0 < t.t b s e → (z : ℕ) → z < t.observations → t.o a e z ≡ t.o b e z

-- The last is the best value of action a at the state before s, if there is one; the totals are those of the states before s among the
-- first, and of the action before at the others of them.
pub record AreBestBefore (t : CellTable) (vectors : ℕ → ℕ → ℤ) (a s : ℕ) (last : ℤ) (totals : List ℤ) : Type 0 where
  pub last_is : 0 < s → last ≡ best_value t vectors a (s - 1)
  pub here : (u : ℕ) → u < s → u < KEPT_STATES → sum_of totals u ≡ best_value t vectors a u
  pub before : (u : ℕ) → 0 < a → s ≤ u → u < t.states → u < KEPT_STATES → sum_of totals u ≡ best_value t vectors (a - 1) u

-- x is at least the excess of every action and state before a and s, by action and then by state, and it is one of them or 0
pub record IsGreatestExcess (t : CellTable) (vectors : ℕ → ℕ → ℤ) (a s : ℕ) (x : ℤ) : Type 0 where
  pub some : pos 0 ≤ℤ x
  pub bounds : (b u : ℕ) → b < t.actions → u < t.states → IsBefore b u a s → excess t vectors b u ≤ℤ x
  pub is_reached : (x ≡ pos 0) ⊎ ((b : ℕ) × (u : ℕ) × (b < t.actions) × (u < t.states) × (x ≡ excess t vectors b u))
