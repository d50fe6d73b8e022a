pub mod Questions
pub mod Settled
pub mod Shown
