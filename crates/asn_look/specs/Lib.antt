pub mod Budget
pub mod Fronts
pub mod Laying
pub mod Looking
pub mod Named
pub mod Refusals
pub mod Streams
