mod Common
pub mod Known
pub mod TextLaws
pub mod Scanning
pub mod Streams
pub mod Numbers
pub mod Printing
pub mod Taken
