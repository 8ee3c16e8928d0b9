-- Sums of integers, and which of them fit 128 bits.
pub mod Amounts
pub mod Bounds
pub mod Figures
pub mod Gaps
pub mod Ring
pub mod RowTotals
pub mod Scales
pub mod SumLaws
pub mod UpperBits
