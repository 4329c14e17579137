-- Sealed fields and filling.
pub mod Frames
pub mod Headed
pub mod Fields
pub mod OpenFields
pub mod Padding
