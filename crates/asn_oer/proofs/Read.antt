-- Where the readers of OER stand, and what they cite at each exit.
pub mod TruthReading
pub mod OtherTruths
pub mod IntegerReading
pub mod ItemReading
pub mod BitReading
pub mod SizeCounts
pub mod TextReading
pub mod Utf8Reading
pub mod TagReading
pub mod IndexReading
pub mod PreambleReading
