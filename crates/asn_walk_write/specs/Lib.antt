pub mod Octets
pub mod Sources
