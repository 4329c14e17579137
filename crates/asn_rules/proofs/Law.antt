-- Spellings, and what tells them apart.
pub mod Facing
pub mod FromFacing
pub mod FromUnits
pub mod Entries
pub mod Items
pub mod PartingFields
pub mod SomeValue
