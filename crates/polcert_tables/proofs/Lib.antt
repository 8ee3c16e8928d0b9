mod Common
pub mod FilledLaws
pub mod KeptLaws
pub mod RowSumLaws
