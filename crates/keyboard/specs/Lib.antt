pub mod Keyboard
pub mod KeyboardFacts
pub mod HostScreen
pub mod DistanceNumbers
pub mod MovedKeyboard
