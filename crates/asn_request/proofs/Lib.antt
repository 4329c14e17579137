pub mod Exactly
pub mod FoundJob
pub mod Given
pub mod NotHelp
pub mod Refusals
pub mod SetOptions
pub mod Subcommands
pub mod Taken
