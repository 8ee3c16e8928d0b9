pub mod Keys
pub mod RowTables
pub mod Matching
pub mod RewardAt
pub mod Steps
