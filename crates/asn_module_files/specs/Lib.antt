pub mod Sources
pub mod Stops
pub mod Terminal
