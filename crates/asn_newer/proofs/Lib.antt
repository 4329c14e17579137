pub mod Law
pub mod Parts
pub mod Walk
