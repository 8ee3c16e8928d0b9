-- What nobody has to believe: only contracts of private functions, and of layers below the crates that callers use, cite these.
pub mod Ahead
pub mod CellBudget
pub mod Elements
pub mod Entries
pub mod Feeding
pub mod Items
pub mod ModelSoFar
pub mod Lines
pub mod Numbers
pub mod Start
pub mod Wants
