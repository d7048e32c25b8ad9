pub mod BytesLines
pub mod KindNames
pub mod Levels
pub mod Lines
pub mod Names
pub mod Remaining
pub mod Whole
