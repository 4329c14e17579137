-- Readers of plain fields.
pub mod NumberSets
pub mod CountedNumbers
pub mod CountedReading
pub mod SignedNumbers
pub mod SignedReading
pub mod IntegerSets
pub mod LengthReading
pub mod FilledReading
pub mod Zeros
pub mod BitVectors
pub mod WideNumbers
