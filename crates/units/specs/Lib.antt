pub mod Examples
pub mod Frames
pub mod Readers
pub mod Units
