-- What a plan reads by OER.
pub mod OctetsRead
pub mod StringsHeld
pub mod FieldsRead
pub mod NothingSpelt
pub mod OpenOctets
