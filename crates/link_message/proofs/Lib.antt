mod Bodies
mod Texts
pub mod Decoders
pub mod Lists
pub mod Records
pub mod InfoKinds
pub mod InfoData
pub mod InfoPortData
pub mod LinkInfos
pub mod Xdp
pub mod Props
pub mod DownReasons
pub mod Dpll
pub mod Devlink
pub mod Ports
pub mod Mctp
pub mod Families
pub mod VirtualFunctions
pub mod Attributes
pub mod Messages
