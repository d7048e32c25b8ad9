pub mod Numbers
pub mod VfRecords
pub mod Maps
pub mod CacheInfos
pub mod VfSettings
pub mod ValueRecords
pub mod Records
pub mod Indexes
