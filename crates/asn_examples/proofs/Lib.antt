pub mod Adding
pub mod LeafValues
pub mod Numbers
