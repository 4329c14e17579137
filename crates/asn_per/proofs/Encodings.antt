-- Complete encodings in PER, what is live, and types without bits.
pub mod Bits
pub mod Spelt
pub mod NotEmpty
pub mod Empty
pub mod SomeBits
pub mod PerFields
pub mod Complete
pub mod SomeOctet
pub mod Whole
pub mod Live
pub mod Tells
pub mod PlaceExamples
