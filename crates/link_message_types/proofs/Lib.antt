pub mod LayerTypes
pub mod HeaderBytes
pub mod Masks
pub mod FlagTexts
pub mod Numbers
