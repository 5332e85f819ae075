pub mod Examples
pub mod LogParts
pub mod Copied
pub mod Refused
pub mod Laws
pub mod WhichRecords
pub mod Stretches
