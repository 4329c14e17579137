pub mod Missing
pub mod Parts
pub mod Telling
