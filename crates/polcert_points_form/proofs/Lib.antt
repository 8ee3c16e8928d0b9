pub mod RaisedSets
pub mod WrittenPoints
pub mod RowWalks
