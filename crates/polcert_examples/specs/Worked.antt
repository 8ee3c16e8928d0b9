-- Worked examples, and what the definitions say of them.
pub mod Controllers
pub mod Doors
pub mod Examples
pub mod FullFormExamples
pub mod RefusedExamples
pub mod StartExamples
pub mod Tiger
pub mod TigerBound
pub mod TigerPicks
