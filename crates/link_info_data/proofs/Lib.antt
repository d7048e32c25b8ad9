pub mod InForce
pub mod WithoutPeers
pub mod Together
