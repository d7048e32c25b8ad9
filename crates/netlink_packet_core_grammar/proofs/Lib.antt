pub mod Attributes
pub mod Bytes
pub mod FirstAttribute
pub mod Numbers
pub mod Sizes
pub mod Texts
pub mod Together
