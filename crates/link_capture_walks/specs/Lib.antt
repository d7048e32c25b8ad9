pub mod Walks
pub mod Listings
