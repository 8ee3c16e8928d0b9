-- Helper definitions of private functions: rewards that differ from one that most have in common, and their weights. Nobody has to
-- believe them.
use Rattle.std.specs.Prelude.{◌≡◌, ℕ, zero, suc, ◌+◌, ◌*◌, ◌/◌, ◌%◌, ◌^◌, ◌<◌, ◌≤◌, ◌==◌, ℤ, pos, ◌-ℤ◌, ◌*ℤ◌, unsigned_abs, List, length, slice_index_or, if◌then◌else◌}
use Rattle.polcert_text.specs.Numbers.{largest}
use Rattle.polcert_cells.specs.Tables.{CellTable}
use Rattle.polcert_cells.specs.declared.common_reward.RewardCell.{RewardCell}
use Rattle.polcert_cells.specs.declared.common_reward.CommonReward.{CommonReward}
use Rattle.polcert_cells.specs.CommonRewards.{AreRewardsBut, IsCommonReward, cell_at}
use Rattle.polcert_check.specs.Horizon.{total_below}
use Rattle.polcert_check.specs.Steps.Ranges.{most_sum}

-- by how much the reward of this number differs from h, if it is among the first cells; else 0
abbrev pub difference_in : (ℕ → ℤ) → ℤ → List RewardCell → ℕ → ℕ → ℤ
difference_in r h cells zero z = pos 0
difference_in r h cells (suc n) z = if (cell_at cells n).observation == z then r z -ℤ h else difference_in r h cells n z

-- the weights sum to their scale, which has 63 bits, and there is room for a sum of numbers up to b
pub record IsWeighed (w : ℕ → ℕ) (count scale b : ℕ) : Type 0 where
  pub all : total_below (λ i. pos (w i)) count ≡ pos scale
  pub small : scale < 2 ^ 63
  pub room : scale * b ≤ most_sum

-- rewards r, of which most are the common one, and weights w, which a function answers when it is asked
pub record AreExcepted (answers : ℕ → ℕ → Type 0) (scale : ℕ) (common : CommonReward) (cells : List RewardCell) (w : ℕ → ℕ) (r : ℕ → ℤ) (count b : ℕ) : Type 0 where
  pub answer : (k weight : ℕ) → k < count → answers k weight → weight ≡ w k
  pub weighed : IsWeighed w count scale b
  pub rewards : IsCommonReward r count common cells
  pub small : unsigned_abs common.reward + largest ≤ b
  pub limited : (k : ℕ) → k < count → unsigned_abs (r k) ≤ largest

-- rewards of which most stand in a list, and the first cells say the others
pub record AreListedBut (list : List ℤ) (r : ℕ → ℤ) (count : ℕ) (cells : List RewardCell) : Type 0 where
  pub rewards : AreRewardsBut (λ z. slice_index_or list z (pos 0)) r (length list) count cells
  pub limited : (z : ℕ) → z < length list → unsigned_abs (r z) ≤ largest

-- the first cells, up to this place, have numbers below n
abbrev pub AreBefore : List RewardCell → ℕ → ℕ → Type 0
AreBefore cells place n = (k : ℕ) → k < place → (cell_at cells k).observation < n

-- the weighted sum of rewards
abbrev pub weighed_total : (ℕ → ℕ) → (ℕ → ℤ) → ℕ → ℤ
weighed_total w r count = total_below (λ k. pos (w k) *ℤ r k) count

-- the weights of an action and a start state, numbered as their rewards are (`row_reward`): on the scale of one step
abbrev pub row_weight : CellTable → ℕ → ℕ → ℕ → ℕ
row_weight m a s k = m.t a s (k / m.observations) * m.o a (k / m.observations) (k % m.observations)
