mod Common
pub mod Basics
pub mod NumberLaws
pub mod EntryLaws
pub mod CellLaws
pub mod StartLaws
pub mod StartLimits
pub mod NameLaws
pub mod WordLaws
pub mod SoundLaws
pub mod EntryListLaws
pub mod SparseLaws
pub mod ScaledRows
pub mod EvenRows
pub mod RowSteps
