mod Common
pub mod Refusing
pub mod Denoted
pub mod OfSources
pub mod OfTexts
pub mod OneAnswer
pub mod Passing
pub mod ReadInTurn
pub mod Answering
pub mod Below
pub mod Above
pub mod Buffered
