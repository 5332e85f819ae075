pub mod Picking
pub mod Totals
pub mod Sheets
pub mod ShownFacts
