pub mod Octets
pub mod Signs
pub mod Sixteen
pub mod Sizes
pub mod DeterminedNumbers
