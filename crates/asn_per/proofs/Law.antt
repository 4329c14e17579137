-- The law on spellings in PER: the bits tell the value, and two spellings are one or part.
pub mod Numbers
pub mod Characters
pub mod Enumerations
pub mod Lists
pub mod Choices
pub mod Facing
