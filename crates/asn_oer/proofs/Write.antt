-- The octets that the encoder of OER puts.
pub mod WrittenOctets
pub mod WrittenNumbers
pub mod WrittenItems
