pub mod Places
pub mod Walking
pub mod Together
