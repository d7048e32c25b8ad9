pub mod Cleared
pub mod Laws
