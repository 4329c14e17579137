-- What the parts of PER and of OER keep, from which the laws follow.
pub mod PerParts
pub mod OerParts
pub mod ItemWays
pub mod PerWays
pub mod OerWays
