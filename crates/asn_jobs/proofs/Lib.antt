pub mod Back
pub mod Counts
pub mod DumpTextSteps
pub mod Found
pub mod Lengths
pub mod Lines
pub mod Steps
pub mod Taken
