pub mod Zeros
pub mod Steps
pub mod RestOfText
pub mod FirstFrames
pub mod Texts
pub mod Judged
pub mod ClearedTexts
pub mod ClearedCaptures
