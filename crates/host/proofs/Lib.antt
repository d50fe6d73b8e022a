pub mod Changes
pub mod Keeps
pub mod Lens
pub mod Parts
pub mod Stepping
