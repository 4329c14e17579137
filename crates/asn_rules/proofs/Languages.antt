-- Languages of parts, and how they are put together.
pub mod Then
pub mod Parts
pub mod Rows
pub mod Forks
pub mod Spellings
pub mod PlainUnits
pub mod Leads
pub mod Exits
pub mod Standing
