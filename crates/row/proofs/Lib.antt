pub mod Found
pub mod Placed
pub mod RowFacts
pub mod RowRuns
pub mod RowCalls
pub mod Tried
