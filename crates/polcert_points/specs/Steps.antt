pub mod PointSums
