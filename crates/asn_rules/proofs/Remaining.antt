-- What is left of what has begun, for sessions.
pub mod Carries
pub mod Left
pub mod Begun
pub mod Tails
