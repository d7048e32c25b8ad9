pub mod ListUnfolding
pub mod Accepted
pub mod Continuing
pub mod PathTexts
pub mod Offsets
pub mod Captures
pub mod Independent
pub mod Together
