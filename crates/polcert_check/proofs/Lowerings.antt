-- The least constant, and the vectors that are lowered or raised by it.
pub mod Least
pub mod Lowering
pub mod Raising
pub mod Shorts
