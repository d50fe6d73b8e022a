pub mod Cells
pub mod Standing
pub mod Tables
