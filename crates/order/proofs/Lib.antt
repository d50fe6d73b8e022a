pub mod Codes
pub mod Agree
