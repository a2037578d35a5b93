pub mod Condition
pub mod Occurring
