pub mod Addresses
pub mod Errors
pub mod Laws
pub mod Outcomes
