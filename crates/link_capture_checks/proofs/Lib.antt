pub mod Types
pub mod Written
pub mod Steps
