pub mod Pushing
pub mod FieldLengths
