pub mod Times
pub mod Constraints
pub mod View
pub mod Spelling
pub mod Broken
pub mod Finding
pub mod ConstraintExamples
pub mod SpellingExamples
