-- What a plan reads by PER.
pub mod WordsRead
pub mod RangedRead
pub mod StringsRead
pub mod FieldsRead
pub mod NothingSpelt
pub mod ItemsSpelt
pub mod OpenHere
