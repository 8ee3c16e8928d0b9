-- Numerals and their values.
pub mod DecimalLaws
pub mod FrontNumbers
pub mod FrontSizes
pub mod MeasureLaws
pub mod NumberLaws
pub mod NumeralParts
pub mod Plain
pub mod PlainWhole
pub mod SignedLaws
pub mod SizeLaws
pub mod SixDigits
