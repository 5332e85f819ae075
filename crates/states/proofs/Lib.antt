pub mod ListAlone
pub mod Meant
