pub mod Delivered
pub mod Shifting
pub mod FieldSteps
pub mod WindowSteps
