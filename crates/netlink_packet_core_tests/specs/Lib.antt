pub mod AddressMessages
pub mod AddressRoundTrips
pub mod Addresses
