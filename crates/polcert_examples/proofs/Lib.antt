mod Common
pub mod Computed
pub mod Controllers
pub mod Doors
pub mod FormExamples
pub mod RefusedExamples
pub mod StartExamples
pub mod Tiger
pub mod TigerBound
pub mod TigerPicks
pub mod WorkedTexts
