-- What nobody has to believe: only contracts of private functions, and of layers below the crates that callers use, cite these.
pub mod GraphRead
pub mod Kept
pub mod VectorsRead
pub mod PointsRead
pub mod WeightRows
