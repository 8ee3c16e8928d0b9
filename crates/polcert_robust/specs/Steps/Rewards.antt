-- Helper definitions of private functions: rewards that are the same for several cells. Nobody has to believe them.
use Rattle.std.specs.Prelude.{◌≡◌, ℕ, ◌<◌, ℤ}
use Rattle.polcert_cells.specs.Tables.{CellTable}

-- whatever is observed, h is the reward of action a from s to e
abbrev pub IsKnownReward : CellTable → ℕ → ℕ → ℕ → ℤ → Type 0
IsKnownReward m a s e h = (z : ℕ) → z < m.observations → m.r a s e z ≡ h

-- wherever it ends and whatever is observed
abbrev pub IsConstantReward : CellTable → ℕ → ℕ → ℤ → Type 0
IsConstantReward m a s h = (e : ℕ) → e < m.states → IsKnownReward m a s e h

-- all start states have the rewards of the first
abbrev pub HasSameRewards : CellTable → ℕ → Type 0
HasSameRewards m a = (s e z : ℕ) → s < m.states → e < m.states → z < m.observations → m.r a s e z ≡ m.r a 0 e z
