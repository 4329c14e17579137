pub mod PartLists
pub mod Pieces
pub mod NameIndexes
pub mod Builds
