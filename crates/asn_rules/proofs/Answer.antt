-- The answers to units and to octets.
pub mod Answers
pub mod OneAnswer
pub mod CodecLaws
pub mod Reading
pub mod NoOctets
