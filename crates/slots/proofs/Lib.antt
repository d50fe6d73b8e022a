pub mod Areas
pub mod Orders
pub mod Overlaps
