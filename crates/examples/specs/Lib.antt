pub mod Examples
pub mod Symbols
