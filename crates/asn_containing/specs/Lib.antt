pub mod Containing
pub mod View
pub mod Judged
pub mod Decoded
pub mod Sessions
pub mod Laws
pub mod ContentsVectors
