pub mod Symbols
pub mod Moves
pub mod Keeping
pub mod Samples
