pub mod ReadBack
pub mod Others
pub mod WrittenBodies
pub mod Exact
pub mod Equal
