pub mod Answering
pub mod Room
pub mod Ends
