-- The rewards of observations that rules name.
-- Nobody has to believe this file: only private functions cite it.
use Rattle.std.specs.Prelude.{◌≡◌, ℕ, ◌+◌, ◌<◌, List, [], ◌∷◌}
use Rattle.polcert_cells.specs.declared.entries.Table.TheVariants.{Reward}
use Rattle.polcert_cells.specs.declared.entries.Entry.{Entry}
use Rattle.polcert_cells.specs.declared.common_reward.RewardCell.{RewardCell}
use Rattle.polcert_cells.specs.Cells.{reward}
use Rattle.polcert_cells.specs.CommonRewards.{cell_at}
use Rattle.polcert_cells.specs.Preamble.{Preamble}
use Rattle.polcert_rules.specs.declared.index.Rule.{Rule}
use Rattle.polcert_rules.specs.declared.named_rules.NamedRules.{NamedRules}
use Rattle.polcert_rules.specs.declared.rewards.StateTransition.{StateTransition}
use Rattle.polcert_rules.specs.Keys.{key_base, FitsKey, most_places, table_key}
use Rattle.polcert_rules.specs.RewardAt.{RewardRules}
use Rattle.polcert_rules.specs.Steps.Newest.{IsNewest}
use Rattle.polcert_rules.specs.Steps.Distinct.{rule_at}
use Rattle.polcert_rules.specs.Steps.Named.{noted_at}
use Rattle.polcert_rules.specs.Steps.Rewards.{AreRewardsOf}

-- the cell of an observation at an outcome
abbrev pub cell_of : StateTransition → ℕ → List ℕ
cell_of at z = at.action ∷ at.start ∷ at.end ∷ z ∷ []

-- for each observation, the newest rule that fits the outcome and the observation is noted
abbrev pub AreNewestAt : List Rule → StateTransition → NamedRules → Type 0
AreNewestAt rules at list = (z : ℕ) → z + 2 < key_base → IsNewest rules (FitsKey most_places (table_key Reward) (cell_of at z)) (noted_at list z)

-- the first cells have the observations that the rules name, and their rewards
pub record AreNamedCells (rewards : RewardRules) (at : StateTransition) (list : NamedRules) (count : ℕ) (cells : List RewardCell) : Type 0 where
  pub named : (k : ℕ) → k < count → (cell_at cells k).observation ≡ (rule_at list.rules k).observation
  pub within : (k : ℕ) → k < count → (cell_at cells k).observation < rewards.shape.observations
  pub each : (p : Preamble) (entries : List Entry) → AreRewardsOf p entries rewards → (k : ℕ) → k < count → reward p entries (cell_of at (cell_at cells k).observation) ≡ (cell_at cells k).reward
