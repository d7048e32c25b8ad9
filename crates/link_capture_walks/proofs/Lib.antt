pub mod Choices
pub mod Steps
pub mod Listings
