pub mod Learning
pub mod LegalRequests
pub mod RequestFrames
pub mod TextKeys
pub mod MessageTexts
