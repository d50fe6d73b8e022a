pub mod Changes
pub mod Granted
pub mod Moves
