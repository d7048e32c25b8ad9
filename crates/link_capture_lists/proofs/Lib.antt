pub mod Built
pub mod Lookups
pub mod Together
