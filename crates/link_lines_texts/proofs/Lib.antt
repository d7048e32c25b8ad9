pub mod AppendingWith
pub mod CanonicalLists
pub mod CapturesDetermined
pub mod FrameUnfolding
pub mod FramesDetermined
pub mod HeadersDetermined
pub mod LineCuts
pub mod LinkBodiesDetermined
pub mod LinkHeadersDetermined
pub mod LinksDetermined
pub mod ListUnfolding
pub mod ListsDetermined
pub mod NumbersKnown
pub mod NumbersLeftOut
pub mod RowFacts
pub mod Joined
pub mod ShapesDetermined
pub mod SomeLines
pub mod AcceptedFrames
pub mod TablesDetermined
pub mod AttributeNamesDetermined
pub mod RowsComputed
pub mod Together
mod ShortBytes
mod ShortExact
mod ShortFrames
mod ShortLists
mod ShortNumbers
mod ShortRawLists
mod ShortValues
