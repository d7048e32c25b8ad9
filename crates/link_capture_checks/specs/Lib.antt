pub mod Measures
pub mod Partings
pub mod Sides
