pub mod LookUps
pub mod NameRows
pub mod InfoRows
pub mod Built
pub mod Families
