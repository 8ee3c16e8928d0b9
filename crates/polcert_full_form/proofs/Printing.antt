-- What is printed, and what is read of it.
pub mod LineLoops
pub mod NumberLines
pub mod PrintedEntries
pub mod PrintedItems
pub mod PrintedNumbers
pub mod PrintedParts
pub mod PrintedPreamble
pub mod PrintedRows
pub mod PrintedStart
pub mod PrintedZeros
pub mod Runs
pub mod WalkedColumns
pub mod WalkedRows
pub mod WrittenParts
