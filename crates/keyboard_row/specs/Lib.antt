pub mod Keyboards
pub mod KeyboardsFacts
pub mod KeyboardsRuns
