-- Indexes of entries: how they are built, and what they find.
pub mod Building
pub mod BuiltLaws
pub mod CellLaws
pub mod FittingLaws
pub mod Greatest
pub mod KeptLaws
pub mod ListLaws
pub mod Matching
pub mod NamedLaws
pub mod Newer
pub mod NextPlaces
pub mod NotedLaws
