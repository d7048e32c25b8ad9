pub mod BytesOrNumbers
pub mod FirstTokens
pub mod NameEnds
pub mod NumberFields
pub mod PlainText
pub mod SimpleRuns
pub mod Steps
