pub mod Kinds
pub mod PortKinds
pub mod Laws
