pub mod Decimal
pub mod Status
