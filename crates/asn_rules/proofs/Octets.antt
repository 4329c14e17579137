-- Readers and writers of octets.
pub mod OctetFields
pub mod Octetwise
pub mod CountedOctets
pub mod LengthOctets
pub mod OctetReading
pub mod SignedOctets
pub mod OctetsWritten
pub mod Characters
pub mod BitStrings
pub mod FilledOctet
pub mod FirstOctets
