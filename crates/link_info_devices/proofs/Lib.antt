pub mod Rows
pub mod Scrubs
pub mod Begins
