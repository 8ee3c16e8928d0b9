-- What nobody has to believe: only contracts of private functions cite these.
pub mod Nearby
pub mod Moving
