pub mod Families
pub mod KindNames
pub mod LinkInfo
pub mod Laws
