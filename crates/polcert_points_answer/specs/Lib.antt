pub mod Headline
pub mod Answer
pub mod Lines
pub mod Run
pub mod Raise
pub mod Steps
