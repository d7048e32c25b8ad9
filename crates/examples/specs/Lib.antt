pub mod Findings
pub mod Interfaces
pub mod NamedRequests
pub mod Requests
pub mod Stores
