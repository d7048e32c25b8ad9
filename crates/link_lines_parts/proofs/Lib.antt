pub mod BytesInLines
pub mod FirstParts
pub mod WholeLists
