-- Rewards that observations have in common or from one list, except a few.
use Rattle.std.specs.Prelude.{◌≡◌, ℕ, ◌/◌, ◌%◌, ◌<◌, ◌≤◌, ℤ, pos, List, length, slice_index_or}
use Rattle.polcert_cells.specs.Tables.{CellTable}
use Rattle.polcert_cells.specs.declared.common_reward.RewardCell.{RewardCell}
use Rattle.polcert_cells.specs.declared.common_reward.CommonReward.{CommonReward}
use Rattle.polcert_cells.specs.declared.common_reward.BaseRewards.{BaseRewards}
use Rattle.polcert_cells.specs.declared.common_reward.BaseRewards.TheVariants.{Common, Listed}
use Rattle.polcert_cells.specs.declared.common_reward.RewardRow.{RewardRow}

-- the cell of this number
abbrev pub cell_at : List RewardCell → ℕ → RewardCell
cell_at cells k = slice_index_or cells k (record { observation = 0; reward = pos 0 })

-- Of this many observations, the first cells say the rewards, each of another one; the others have that of the base.
pub record AreRewardsBut (base r : ℕ → ℤ) (count exceptions : ℕ) (cells : List RewardCell) : Type 0 where
  pub room : exceptions ≤ length cells
  pub distinct : (j k : ℕ) → j < k → k < exceptions → (cell_at cells j).observation ≡ (cell_at cells k).observation → ⊥
  pub within : (k : ℕ) → k < exceptions → (cell_at cells k).observation < count
  pub each : (k : ℕ) → k < exceptions → r (cell_at cells k).observation ≡ (cell_at cells k).reward
  pub others : (z : ℕ) → z < count → ((k : ℕ) → k < exceptions → (cell_at cells k).observation ≡ z → ⊥) → r z ≡ base z

-- all but those of the first cells have the reward in common
abbrev pub IsCommonReward : (ℕ → ℤ) → ℕ → CommonReward → List RewardCell → Type 0
IsCommonReward r count common cells = AreRewardsBut (λ z. common.reward) r count common.exceptions cells

-- the reward of an observation
abbrev pub base_reward : BaseRewards → ℕ → ℤ
base_reward (Common reward) z = reward
base_reward (Listed rewards) z = slice_index_or rewards.now z (pos 0)

-- a list has one reward for each observation
abbrev pub HasBase : BaseRewards → ℕ → Type 0
HasBase (Common reward) count = Unit {0}
HasBase (Listed rewards) count = length rewards.now ≡ count

-- the base gives the rewards of this many observations, all but those of the first cells
pub record IsRewardRow (r : ℕ → ℤ) (count : ℕ) (row : RewardRow) (cells : List RewardCell) : Type 0 where
  pub size : HasBase row.base count
  pub rewards : AreRewardsBut (base_reward row.base) r count row.exceptions cells

-- The rewards of an action and a start state, numbered as a text lists them: end state after end state, in each by observation.
abbrev pub row_reward : CellTable → ℕ → ℕ → ℕ → ℤ
row_reward m a s k = m.r a s (k / m.observations) (k % m.observations)

-- the numbers of the first cells rise
abbrev pub AreOrdered : CommonReward → List RewardCell → Type 0
AreOrdered common cells = (j k : ℕ) → j < k → k < common.exceptions → (cell_at cells j).observation < (cell_at cells k).observation

-- whatever is observed, all end states have the reward in common except those of the first cells, in order
abbrev pub AreEndRewards : CellTable → ℕ → ℕ → CommonReward → List RewardCell → Type 0
AreEndRewards m a s common cells = ((z : ℕ) → z < m.observations → IsCommonReward (λ e. m.r a s e z) m.states common cells) × AreOrdered common cells
