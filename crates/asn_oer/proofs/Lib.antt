pub mod Law
pub mod Encodings
pub mod Types
pub mod Walk
pub mod Write
pub mod Read
pub mod Plan
pub mod InPieces
