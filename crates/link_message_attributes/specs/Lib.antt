pub mod LinkAttributes
pub mod Outcomes
pub mod Payloads
