pub mod Headline
pub mod Written
