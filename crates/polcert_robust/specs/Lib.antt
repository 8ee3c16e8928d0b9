pub mod Intervals
pub mod Worst
pub mod Start
pub mod RobustVerdict
pub mod RobustAbove
pub mod RobustLower
pub mod RobustRaise
pub mod Steps
