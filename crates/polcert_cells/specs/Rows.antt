-- Rows: their sums, and the first that doesn't sum to its scale.
use Rattle.std.specs.Prelude.{◌≡◌, ℕ, ◌<◌}
use Rattle.polcert_cells.specs.declared.entries.Table.{Table}
use Rattle.polcert_cells.specs.declared.entries.Table.TheVariants.{Transition, Observation, Reward}
use Rattle.polcert_cells.specs.Meaning.{Meaning, states_of, actions_of, observations_of, t_scale, o_scale, sum_below}

-- a table of weights
abbrev pub IsWeighted : Table → Type 0
IsWeighted Reward = ⊥
IsWeighted _ = Unit {0}

-- the row of a table at an action and a state: a start state in T, an end state in O
abbrev pub IsProperRow : Meaning → Table → ℕ → ℕ → Type 0
IsProperRow m Transition a s = sum_below (m.t a s) (states_of m) ≡ t_scale m
IsProperRow m Observation a e = sum_below (m.o a e) (observations_of m) ≡ o_scale m
IsProperRow m Reward a s = ⊥

-- the rows of the table before this one are proper: by action, then by state
pub record AreProperBefore (m : Meaning) (table : Table) (a s : ℕ) : Type 0 where
  pub earlier_actions : (b r : ℕ) → b < a → r < states_of m → IsProperRow m table b r
  pub same_action : (r : ℕ) → r < s → IsProperRow m table a r

-- the rows of T before those of O
abbrev pub IsAfterTransitions : Meaning → Table → Type 0
IsAfterTransitions m Transition = Unit {0}
IsAfterTransitions m Observation = (b r : ℕ) → b < actions_of m → r < states_of m → IsProperRow m Transition b r
IsAfterTransitions m Reward = ⊥

-- the first row that doesn't sum to its scale
pub record IsFirstWrongRow (m : Meaning) (table : Table) (a s : ℕ) : Type 0 where
  pub action : a < actions_of m
  pub state : s < states_of m
  pub wrong : IsProperRow m table a s → ⊥
  pub before : AreProperBefore m table a s
  pub after_transitions : IsAfterTransitions m table
