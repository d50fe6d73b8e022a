pub mod Cells
pub mod Shape
pub mod Orders
pub mod Table
pub mod Laws
