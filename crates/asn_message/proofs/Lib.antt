pub mod Filled
pub mod Restored
pub mod Passing
pub mod ViewParts
pub mod RowSteps
mod Sourced
mod Strings
