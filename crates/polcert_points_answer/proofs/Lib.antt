mod Common
pub mod Denoted
pub mod Passing
pub mod OfTexts
pub mod Answering
pub mod OneAnswer
pub mod Enclosing
pub mod Checking
pub mod Raising
