pub mod Arguments
pub mod Collected
pub mod Parts
pub mod Pieces
pub mod Products
