pub mod Column
pub mod Words
