pub mod Calls
pub mod Causes
pub mod Laws
pub mod Numbers
pub mod Steps
pub mod Turns
pub mod World
