pub mod Typed
pub mod Seen
pub mod Kinds
pub mod Paths
pub mod Names
pub mod Built
