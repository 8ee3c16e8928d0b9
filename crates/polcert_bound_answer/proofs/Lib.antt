mod Common
pub mod SameInformed
pub mod OneInformed
pub mod Denoted
pub mod OneAnswer
pub mod Passing
pub mod OfTexts
pub mod Answering
pub mod Raising
pub mod Enclosing
pub mod Earning
