-- Helper definitions of private functions: what is known of rewards, as it is kept for all nodes. Nobody has to believe them.
use Rattle.std.specs.Prelude.{◌≡◌, ℕ, ◌/◌, ◌%◌, ◌<◌, pos, false, true, slice_index_or}
use Rattle.polcert_cells.specs.Tables.{CellTable}
use Rattle.polcert_cells.specs.declared.elements.TheConstants.{MOST_ACTIONS}
use Rattle.polcert_robust.specs.Steps.Rewards.{HasSameRewards, IsConstantReward}
use Rattle.polcert_robust.specs.declared.known_rewards.KnownRewards.{KnownRewards}
use Rattle.polcert_robust.specs.declared.known_rewards.TheConstants.{ROOM}

-- what is kept holds of the table
pub record AreKnownRewards (m : CellTable) (kept : KnownRewards) : Type 0 where
  pub constants : (k : ℕ) → k < ROOM → slice_index_or kept.are_constant k false ≡ true
      → IsConstantReward m (k / m.states) (k % m.states) (slice_index_or kept.constants k (pos 0))
  pub same : (a : ℕ) → a < MOST_ACTIONS → slice_index_or kept.are_same a false ≡ true → HasSameRewards m a
