pub mod Measures
pub mod Prefixes
pub mod Sameness
pub mod Peers
pub mod Capacity
pub mod FoundRows
