pub mod FirstPairs
pub mod Verdicts
pub mod OfTexts
