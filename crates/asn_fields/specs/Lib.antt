pub mod Leaves
pub mod Tells
pub mod Tiles
