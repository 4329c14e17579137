pub mod Sink
pub mod LengthCounts
pub mod Measures
pub mod SinkLaws
