pub mod Drills
pub mod Parts
pub mod Writes
pub mod RoundTrip
pub mod DrillSequence
pub mod Room
