pub mod Pairs
pub mod BooleanBytes
pub mod Filled
