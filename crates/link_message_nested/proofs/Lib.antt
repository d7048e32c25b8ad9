pub mod VfRules
pub mod RawRules
pub mod FamilyRules
pub mod Requests
