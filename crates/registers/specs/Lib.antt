pub mod Pile
pub mod Registers
pub mod Sound
pub mod Enough
pub mod Always
