pub mod Firsts
pub mod Judging
pub mod Lines
pub mod Outside
pub mod Seeing
pub mod Transfers
