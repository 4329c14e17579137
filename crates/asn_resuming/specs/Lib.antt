pub mod Counting
pub mod Reached
pub mod Resumed
