pub mod IpTunnels
pub mod Sizes
