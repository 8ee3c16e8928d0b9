-- Rules of which each names a cell, and the newest of those that cover all cells.
-- Nobody has to believe this file: only private functions cite it.
use Rattle.std.specs.Prelude.{◌≡◌, ℕ, ◌+◌, ◌*◌, ◌^◌, ◌<◌, ◌⊎◌, List, [], ◌∷◌, Option, Some, slice_get}
use Rattle.polcert_rules.specs.declared.index.Rule.{Rule}
use Rattle.polcert_rules.specs.declared.row_rules.CellRules.{CellRules}
use Rattle.polcert_rules.specs.Keys.{key_base, FitsKey}
use Rattle.polcert_rules.specs.Matching.{max_option}
use Rattle.polcert_cells.specs.Cells.{reward}
use Rattle.polcert_cells.specs.CommonRewards.{cell_at}
use Rattle.polcert_cells.specs.Preamble.{Preamble}
use Rattle.polcert_cells.specs.declared.common_reward.RewardCell.{RewardCell}
use Rattle.polcert_cells.specs.declared.entries.Entry.{Entry}
use Rattle.polcert_cells.specs.declared.entries.Table.TheVariants.{Reward}
use Rattle.polcert_rules.specs.Keys.{most_places, table_key}
use Rattle.polcert_rules.specs.RewardAt.{RewardRules}
use Rattle.polcert_rules.specs.Steps.Newest.{IsNewest, IsRising}
use Rattle.polcert_rules.specs.Steps.Rewards.{AreRewardsOf}

-- after the key `low` the key names end state e, and then fits observation z
abbrev pub NamesEnd : ℕ → ℕ → ℕ → ℕ → Type 0
NamesEnd low e z = FitsKey 1 (low + (e + 2) * key_base ^ 1) (z ∷ [])

-- At each end state and observation the newest rule whose key passes is that of the rules that name the end state, or the newest of the
-- others, whichever is newer.
abbrev pub AreCellRules : List Rule → (ℕ → ℕ → ℕ → Type 0) → CellRules → Type 0
AreCellRules rules P cells = (e z : ℕ) → e + 2 < key_base → z + 2 < key_base → (x : Option ℕ)
    → IsNewest cells.named.now (NamesEnd cells.low e z) x → IsNewest rules (P e z) (max_option cells.whole x)

-- the rules of both, of which one names no end state
abbrev pub AreJoined : CellRules → CellRules → CellRules → Type 0
AreJoined a b joined = (joined.whole ≡ max_option a.whole b.whole)
    × (((b.named.now ≡ []) × (joined.named ≡ a.named) × (joined.low ≡ a.low)) ⊎ ((a.named.now ≡ []) × (joined.named ≡ b.named) × (joined.low ≡ b.low)))

-- the rules rise, and each key after theirs has 64 bits
abbrev pub AreProperCells : CellRules → Type 0
AreProperCells cells = IsRising cells.named.now × (cells.low + key_base ^ 2 < 2 ^ 64)

-- the rule of this number names one cell, numbered row after row, and gives it this reward if it or the newest of the others is its newest
pub record IsCellOf (rewards : RewardRules) (a s : ℕ) (list : CellRules) (rule : Rule) (cell : RewardCell) : Type 0 where
  pub end : ℕ
  pub observation : ℕ
  pub number : cell.observation ≡ end * rewards.shape.observations + observation
  pub end_within : end < rewards.shape.states
  pub within : observation < rewards.shape.observations
  pub names : NamesEnd list.low end observation rule.key
  pub alone : (e z : ℕ) → z < rewards.shape.observations → NamesEnd list.low e z rule.key → (e ≡ end) × (z ≡ observation)
  pub earns : IsNewest rewards.rules (FitsKey most_places (table_key Reward) (a ∷ s ∷ end ∷ observation ∷ [])) (max_option list.whole (Some rule.number))
      → (p : Preamble) (entries : List Entry) → AreRewardsOf p entries rewards → reward p entries (a ∷ s ∷ end ∷ observation ∷ []) ≡ cell.reward

-- the first cells are those of the rules, and their numbers rise
pub record AreCellsOf (rewards : RewardRules) (a s : ℕ) (list : CellRules) (count next : ℕ) (cells : List RewardCell) : Type 0 where
  pub each : (k : ℕ) (rule : Rule) → k < count → slice_get list.named.now k ≡ Some rule → IsCellOf rewards a s list rule (cell_at cells k)
  pub rising : (j k : ℕ) → j < k → k < count → (cell_at cells j).observation < (cell_at cells k).observation
  pub below : (k : ℕ) → k < count → (cell_at cells k).observation < next
