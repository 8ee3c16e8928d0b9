pub mod Distances
pub mod Lines
pub mod Moves
pub mod Near
pub mod Run
pub mod Steps
