pub mod Inside
pub mod Products
pub mod Tested
