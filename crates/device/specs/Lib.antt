pub mod Bank
pub mod Layers
pub mod Meaning
pub mod Words
pub mod Changing
pub mod Banks
