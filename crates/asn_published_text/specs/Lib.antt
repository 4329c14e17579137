pub mod Modules
pub mod Words
