pub mod Mending
pub mod Laws
pub mod WhichRecords
pub mod Examples
pub mod Stretches
