mod Common
pub mod Steps
pub mod Bounded
pub mod EveryPolicy
pub mod Greatest
pub mod Informed
pub mod Checking
pub mod GraphPolicies
pub mod EveryGraph
pub mod Start
pub mod Vanishing
pub mod Optimum
pub mod Earnings
pub mod Seen
pub mod SeenSums
pub mod SeenModels
pub mod Randomised
pub mod Mixtures
