pub mod Id
pub mod Speed
pub mod Station
