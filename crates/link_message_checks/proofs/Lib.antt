pub mod Headers
pub mod ShortBodies
pub mod Prefixes
