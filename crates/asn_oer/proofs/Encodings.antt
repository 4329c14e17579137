-- Encodings in OER, and what is live.
pub mod Spelt
pub mod SpeltLeaves
pub mod SpeltTypes
pub mod Whole
pub mod LiveParts
pub mod Tells
pub mod PlaceExamples
