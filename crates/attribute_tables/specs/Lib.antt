pub mod Written
pub mod Views
pub mod Beginnings
pub mod Outcomes
