pub mod Comparisons
pub mod Readings
pub mod Sides
pub mod Partings
