pub mod Meeting
pub mod Breaking
pub mod Encodings
pub mod Answering
