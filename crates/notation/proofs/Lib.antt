pub mod Examples
pub mod Passing
pub mod RecordBytes
pub mod Entries
pub mod Comments
pub mod Accepted
pub mod RoundTrip
