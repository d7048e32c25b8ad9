pub mod Data
pub mod PortData
pub mod Outcomes
pub mod Xstats
pub mod Laws
