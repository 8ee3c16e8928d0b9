-- The reward of a cell, by the rules: what the body of the newest rule that fits its indices gives it, or 0.
use Rattle.std.specs.Prelude.{ℕ, ◌+◌, ◌*◌, List, [], ◌∷◌, Option, Some, None, drop, get_or, ℤ, pos}
use Rattle.polcert_cells.specs.declared.entries.Table.TheVariants.{Reward}
use Rattle.std.specs.List.{slice_get}
use Rattle.polcert_rules.specs.declared.index.Rule.{Rule}
use Rattle.polcert_cells.specs.declared.entries.RewardBody.{RewardBody}
use Rattle.polcert_rules.specs.declared.rewards.RewardShape.{RewardShape}
use Rattle.polcert_rules.specs.Keys.{table_key, most_places}
use Rattle.polcert_rules.specs.Matching.{newest_in}

-- the rules of R by their keys, the bodies of all entries by their numbers, and the numbers of all bodies
pub record RewardRules : Type 0 where
  pub shape : RewardShape
  pub rules : List Rule
  pub bodies : List RewardBody
  pub numbers : List ℤ

-- the number of a cell in a body, by the indices that are left for it, in a table with this many rows and columns
abbrev pub cell_in : ℕ → ℕ → List ℕ → ℕ
cell_in rows columns (matrix ∷ row ∷ column ∷ []) = (matrix * rows + row) * columns + column
cell_in rows columns (row ∷ column ∷ []) = row * columns + column
cell_in rows columns (column ∷ []) = column
cell_in rows columns _ = 0

-- what a body gives the cell at these indices
abbrev pub given : RewardRules → List ℕ → Option RewardBody → ℤ
given rewards indices None = pos 0
given rewards indices (Some b) = get_or rewards.numbers (b.start + cell_in rewards.shape.states rewards.shape.observations (drop b.places indices)) (pos 0)

-- what the rule of this number gives it
abbrev pub given_by : RewardRules → List ℕ → Option ℕ → ℤ
given_by rewards indices None = pos 0
given_by rewards indices (Some number) = given rewards indices (slice_get rewards.bodies number)

abbrev pub reward_by_rules : RewardRules → List ℕ → ℤ
reward_by_rules rewards indices = given_by rewards indices (newest_in most_places (table_key Reward) rewards.rules indices)

-- the reward where an action is taken in a start state, ends in an end state, and an observation is made
abbrev pub reward_at : RewardRules → ℕ → ℕ → ℕ → ℕ → ℤ
reward_at rewards action start end observation = reward_by_rules rewards (action ∷ start ∷ end ∷ observation ∷ [])
