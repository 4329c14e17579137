pub mod Asking
pub mod Command
pub mod Request
