-- The laws on messages of newer and older senders.
pub mod Read
pub mod Flipped
pub mod Itself
pub mod Received
pub mod OneWay
pub mod OneReading
