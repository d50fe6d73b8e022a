pub mod Bounds
pub mod Outlook
pub mod Own
pub mod Places
pub mod View
pub mod Words
