-- The units of spellings, and which prefixes are live.
pub mod Flat
pub mod Chunks
pub mod Lists
pub mod Fronts
pub mod Closed
pub mod Beginnings
pub mod LiveUpTo
pub mod Places
