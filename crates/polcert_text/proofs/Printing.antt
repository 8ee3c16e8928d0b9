-- What is printed, and what is read of it.
pub mod Buffering
pub mod Numerals
pub mod PrintLaws
pub mod PrintedCut
pub mod PrintedWords
pub mod Taking
pub mod Written
pub mod WrittenNumbers
