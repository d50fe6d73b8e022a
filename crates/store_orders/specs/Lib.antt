pub mod State
pub mod Addresses
pub mod Effects
pub mod Writes
