-- The bits that the encoder of PER puts.
pub mod Spellings
pub mod BetweenBounds
pub mod IndexBits
pub mod ItemBits
pub mod Words
pub mod SizesWritten
pub mod ListFragments
pub mod Completing
pub mod Doubled
