-- The components of a SEQUENCE under their presence bits.
pub mod Listed
pub mod ListedEach
pub mod ListedReading
