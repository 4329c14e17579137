-- Numbers and lengths as languages.
pub mod Sets
pub mod CountedCodes
pub mod Headers
pub mod HeaderBits
pub mod General
pub mod Fragments
pub mod Ranges
pub mod OctetLengths
pub mod OctetRows
