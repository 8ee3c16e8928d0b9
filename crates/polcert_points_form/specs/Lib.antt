pub mod RaisedSet
pub mod FullForm
pub mod Steps
