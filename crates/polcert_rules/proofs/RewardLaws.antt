-- Rewards.
pub mod CellRewards
pub mod RewardAt
pub mod RewardCells
pub mod RewardCovering
pub mod RewardEnds
pub mod RewardLists
pub mod RewardPaid
pub mod RewardRules
pub mod RewardStarts
pub mod RewardValues
