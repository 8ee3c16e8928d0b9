mod Common
pub mod Printing
pub mod Denoting
pub mod Writable
