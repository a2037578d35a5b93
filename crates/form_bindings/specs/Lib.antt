pub mod Entries
pub mod Learning
pub mod Named
pub mod Values
