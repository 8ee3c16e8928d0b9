-- What nobody has to believe: only contracts of private functions, and of layers below the crates that callers use, cite these.
pub mod CheckInput
pub mod Exceptions
pub mod Factored
pub mod Findings
pub mod FollowedCells
pub mod Leasts
pub mod Mirrored
pub mod Node
pub mod Products
pub mod Ranges
pub mod Survey
pub mod Values
