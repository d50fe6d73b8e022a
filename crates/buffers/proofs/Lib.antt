pub mod Found
pub mod Locks
pub mod Mapping
