mod Numbered
pub mod HandedOn
pub mod HostScreen
pub mod DistanceNumbers
pub mod MovedKeyboard
