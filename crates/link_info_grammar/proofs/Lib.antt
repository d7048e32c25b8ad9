pub mod Families
pub mod Names
