pub mod Lengths
pub mod Made
