pub mod Rows
pub mod Names
pub mod Tables
pub mod InForce
