-- What nobody has to believe: only contracts of private functions, and of layers below the crates that callers use, cite these.
pub mod Buffer
pub mod Classes
pub mod FrontSizes
pub mod NumeralEnds
pub mod Scaling
pub mod Scan
pub mod ScanOf
pub mod StreamTaken
pub mod Streaming
pub mod TakenAhead
