pub mod AddressHeaders
