pub mod Flags
pub mod Headers
pub mod Walks
pub mod WalkLaws
pub mod Together
pub mod Emits
pub mod Families
