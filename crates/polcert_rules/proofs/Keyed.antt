-- Keys of patterns, in their order.
pub mod Covering
pub mod Fitting
pub mod KeyBase
pub mod KeyRanges
pub mod Keying
