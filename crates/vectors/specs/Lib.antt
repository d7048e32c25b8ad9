pub mod InfoList
pub mod Norm
pub mod Show
