mod Common
pub mod Keyed
pub mod Indexes
pub mod RowLaws
pub mod RewardLaws
