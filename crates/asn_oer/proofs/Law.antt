-- The law on spellings in OER: the octets tell the value, and two spellings are one or part.
pub mod GoodTypes
pub mod Leaves
pub mod TagForms
pub mod Integers
pub mod Strings
pub mod Spellings
