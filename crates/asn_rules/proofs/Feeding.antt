-- What a session makes of the octets so far.
pub mod SoFar
pub mod Sessions
pub mod Pieces
