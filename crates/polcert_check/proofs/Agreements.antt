-- One answer, and the same of models with the same cells.
pub mod Agreeing
pub mod OneAnswer
pub mod SameAnswers
pub mod SameCells
pub mod SameModels
