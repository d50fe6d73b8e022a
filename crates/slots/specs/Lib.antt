pub mod Ahead
pub mod Carried
pub mod Held
