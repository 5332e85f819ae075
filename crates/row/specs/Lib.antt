pub mod Row
pub mod Views
pub mod RowFacts
pub mod RowRuns
pub mod RowCalls
pub mod Tried
