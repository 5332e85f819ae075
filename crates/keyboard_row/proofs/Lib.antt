mod Finding
mod Placed
pub mod KeyboardsFacts
pub mod KeyboardsRuns
