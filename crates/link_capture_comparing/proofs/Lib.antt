pub mod Counting
pub mod Standing
pub mod Together
pub mod Finding
pub mod Deciding
