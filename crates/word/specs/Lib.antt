pub mod Wrap
pub mod Shift
pub mod Halves
pub mod Places
pub mod Symbols
pub mod Qs
pub mod Laws
pub mod Examples
