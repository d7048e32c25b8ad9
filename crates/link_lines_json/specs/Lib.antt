pub mod Tokens
pub mod Names
pub mod Runs
pub mod Strings
pub mod Values
pub mod Attributes
pub mod Json
