-- What a printed model denotes.
pub mod Covering
pub mod ModelEntries
pub mod Observing
pub mod RewardBlocks
pub mod RewardEntries
pub mod RowEntries
pub mod SameForms
pub mod StartShapes
pub mod WeightForms
