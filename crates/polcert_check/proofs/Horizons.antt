-- Runs, and the promise for every number of steps.
pub mod Cuts
pub mod Enumerated
pub mod EveryHorizon
pub mod Kept
pub mod Once
pub mod Refused
pub mod Rewards
pub mod Runs
pub mod Splitting
pub mod StartSums
