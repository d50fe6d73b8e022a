pub mod Effects
pub mod Kept
pub mod Told
