pub mod Moves
pub mod Sums
pub mod Controls
pub mod QOrders
pub mod Shifts
pub mod Jumps
pub mod Copies
pub mod Effects
