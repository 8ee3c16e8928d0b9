pub mod Contents
pub mod Filled
pub mod Kept
pub mod Steps
