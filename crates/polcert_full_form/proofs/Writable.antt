-- Which models can be written.
pub mod FormLength
pub mod Printable
pub mod WritableModels
pub mod WritableTexts
